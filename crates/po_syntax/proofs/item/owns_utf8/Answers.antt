use Rattle.po_syntax.proofs.StringsRead.{numbered}
use Rattle.po_syntax.proofs.item.owns_utf8.Goals as goal

pub returns-in-Numbered : goal.returns-in-Numbered
returns-in-Numbered c = numbered c.in-Str.is c.in-Numbered.is (rw c.deref.ensures.value at c.is_utf8.ensures)
