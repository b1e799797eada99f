use Rattle.po_compile.proofs.OneOutcome.{accepted_faultless}
use Rattle.po_compile.proofs.laws.no_fault_where_accepted.Goals as goal

pub returns : goal.returns
returns c = accepted_faultless
