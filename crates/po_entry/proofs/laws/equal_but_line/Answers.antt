use Rattle.po_entry.proofs.Prelude.{entry_decide}
use Rattle.po_entry.proofs.laws.equal_but_line.Goals as goal

pub returns : goal.returns
returns c = entry_decide
