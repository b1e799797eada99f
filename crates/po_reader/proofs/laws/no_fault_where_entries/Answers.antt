use Rattle.po_reader.proofs.OneOutcome.{text_or_fault}
use Rattle.po_reader.proofs.laws.no_fault_where_entries.Goals as goal

pub returns : goal.returns
returns c = text_or_fault
