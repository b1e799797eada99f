use Rattle.mo_expand.proofs.MessageOrder.{sorted_file_is_mo_file}
use Rattle.mo_expand.proofs.laws.sorted_file_is_mo_file.Goals as goal

pub returns : goal.returns
returns c = sorted_file_is_mo_file
