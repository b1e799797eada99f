use Rattle.mo_expand.proofs.ExpandedFiles.{expanded_file_is_mo_file}
use Rattle.mo_expand.proofs.laws.expanded_file_is_mo_file.Goals as goal

pub returns : goal.returns
returns c = expanded_file_is_mo_file
