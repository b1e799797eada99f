use Rattle.po_compile.proofs.OneOutcome.{accepted_or_fault}
use Rattle.po_compile.proofs.laws.accepted_or_fault.Goals as goal

pub returns : goal.returns
returns c = accepted_or_fault
