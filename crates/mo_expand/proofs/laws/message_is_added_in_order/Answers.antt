use Rattle.mo_expand.proofs.AddedMessages.{message_is_added_in_order}
use Rattle.mo_expand.proofs.laws.message_is_added_in_order.Goals as goal

pub returns : goal.returns
returns c = message_is_added_in_order
