use Rattle.po_reader.proofs.OneOutcome.{read_valid}
use Rattle.po_reader.proofs.laws.entries_can_stand.Goals as goal

pub returns : goal.returns
returns c = read_valid
