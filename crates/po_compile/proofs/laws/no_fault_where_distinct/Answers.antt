use Rattle.po_compile.proofs.OneOutcome.{not_both, text_once}
use Rattle.po_compile.proofs.laws.no_fault_where_distinct.Goals as goal

pub returns : goal.returns
returns c text entries error = not_both (text_once text)
