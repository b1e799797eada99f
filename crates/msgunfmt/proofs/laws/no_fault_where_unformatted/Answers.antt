use Rattle.msgunfmt.proofs.OneOutcome.{no_fault}
use Rattle.msgunfmt.proofs.laws.no_fault_where_unformatted.Goals as goal

pub returns : goal.returns
returns c = no_fault c.one_message_list.ensures
