use Rattle.mo_expand.proofs.MessageOrder.{mo_file_is_in_order}
use Rattle.mo_expand.proofs.laws.mo_file_is_in_order.Goals as goal

pub returns : goal.returns
returns c = mo_file_is_in_order
