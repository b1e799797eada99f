use Rattle.mo_expand.proofs.MessageOrder.{same_message_under_key}
use Rattle.mo_expand.proofs.laws.same_message_under_key.Goals as goal

pub returns : goal.returns
returns c = same_message_under_key
