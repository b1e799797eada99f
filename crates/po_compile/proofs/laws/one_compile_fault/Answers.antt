use Rattle.po_compile.proofs.OneOutcome.{compile_fault_once}
use Rattle.po_compile.proofs.laws.one_compile_fault.Goals as goal

pub returns : goal.returns
returns c = compile_fault_once
