use Rattle.mo_file.proofs.Faults.{mo_file_or_fault}
use Rattle.mo_file.proofs.laws.mo_file_or_fault.Goals as goal

pub returns : goal.returns
returns c = mo_file_or_fault
