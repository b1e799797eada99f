use Rattle.mo_expand.proofs.SegmentTexts.{put_both}
use Rattle.mo_expand.proofs.joining.put_both.Goals as goal

pub returns-clause-end : goal.returns-clause-end
returns-clause-end c =
    put_both _ _ _ _ _ _ _ _ c.in_ok-middle.ensures.end c.put.ensures.len c.put-2.ensures.end
