use Rattle.mo_expand.proofs.MessageOrder.{one_order}
use Rattle.mo_expand.proofs.laws.one_order.Goals as goal

pub returns : goal.returns
returns c = one_order
