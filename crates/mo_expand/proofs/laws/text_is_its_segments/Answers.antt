use Rattle.mo_expand.proofs.SegmentTexts.{text_is_its_segments}
use Rattle.mo_expand.proofs.laws.text_is_its_segments.Goals as goal

pub returns : goal.returns
returns c = text_is_its_segments
