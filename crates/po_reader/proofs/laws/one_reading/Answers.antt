use Rattle.po_reader.proofs.OneOutcome.{text_once}
use Rattle.po_reader.proofs.laws.one_reading.Goals as goal

pub returns : goal.returns
returns c = text_once
