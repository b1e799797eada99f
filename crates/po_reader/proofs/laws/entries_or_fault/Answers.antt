use Rattle.po_reader.proofs.OneOutcome.{text_ends}
use Rattle.po_reader.proofs.laws.entries_or_fault.Goals as goal

pub returns : goal.returns
returns c = text_ends
