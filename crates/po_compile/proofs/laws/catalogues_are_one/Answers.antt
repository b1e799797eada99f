use Rattle.po_compile.proofs.OneOutcome.{one_value, texts_once}
use Rattle.po_compile.proofs.laws.catalogues_are_one.Goals as goal

pub returns : goal.returns
returns c texts catalogues others read also = one_value (texts_once texts) read.each also.each
