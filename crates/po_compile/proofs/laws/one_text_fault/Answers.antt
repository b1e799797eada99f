use Rattle.po_compile.proofs.OneOutcome.{one_error, text_once}
use Rattle.po_compile.proofs.laws.one_text_fault.Goals as goal

pub returns : goal.returns
returns c text error other = one_error (text_once text)
