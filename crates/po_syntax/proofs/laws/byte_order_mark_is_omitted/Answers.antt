use Rattle.po_syntax.proofs.LineNumbers.{mark_omitted}
use Rattle.po_syntax.proofs.laws.byte_order_mark_is_omitted.Goals as goal

pub returns : goal.returns
returns c = mark_omitted
