use Rattle.po_syntax.proofs.OneOutcome.{text_ends}
use Rattle.po_syntax.proofs.laws.items_or_fault.Goals as goal

pub returns : goal.returns
returns c = text_ends
