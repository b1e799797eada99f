use Rattle.envsubst.proofs.Prelude.{Appends-nil, arith, on-err, ◌+◌, ◌∙◌}
use Rattle.envsubst.proofs.Runs.{Gathers-out, Gathers-part, Gathers-piece, Gathers-stopped, same-values}
use Rattle.envsubst.proofs.whole_input.feed_in_blocks.Goals as goal

pub returns-in_err-block-clause-stops : goal.returns-in_err-block-clause-stops
returns-in_err-block-clause-stops g c =
    on-err _ _ (Gathers-stopped _ _ _ c.args.piece.now c.loop-at.at _ _ _ _ c.loop-at.invariant.gathers
    (0, Appends-nil _))

pub returns-in_err-put_all-clause-stops : goal.returns-in_err-put_all-clause-stops
returns-in_err-put_all-clause-stops g c =
    let more =
    Gathers-part _ _ _ _ c.args.piece.now c.loop-at.at c.min.result _ _ _ _ _
    (same-values _ _ _ _ c.loop-at.invariant.vars c.loop-at.invariant.only) c.loop-at.invariant.gathers
    c.in_ok-block.ensures.ok in
    on-err _ _ (Gathers-stopped _ _ _ c.args.piece.now (c.loop-at.at + c.min.result) _ _ _ _ more
    (rw c.deref.ensures.value at c.in_err-put_all.ensures.prefix))

pub loop-at-preserved-then-len-ge-BLOCK_LEN : goal.loop-at-preserved-then-len-ge-BLOCK_LEN
loop-at-preserved-then-len-ge-BLOCK_LEN g c =
    let more =
    Gathers-part _ _ _ _ c.args.piece.now c.loop-at.at c.min.result _ _ _ _ _
    (same-values _ _ _ _ c.loop-at.invariant.vars c.loop-at.invariant.only) c.loop-at.invariant.gathers
    c.in_ok-block.ensures.ok in record {
      within = omega (arith, c.min.ensures);
      gathers = Gathers-out _ _ _ _ _ _ _ _ more
          (rw c.deref.ensures.value at c.in_ok-put_all.ensures.ok) c.clear.ensures.items;
      vars = c.in_ok-block.ensures.vars ∙ c.loop-at.invariant.vars;
      only = c.in_ok-block.ensures.only ∙ c.loop-at.invariant.only;
      sound = c.in_ok-block.ensures.sound;
      few = c.in_ok-block.ensures.few;
      no_failure = c.in_ok-put_all.ensures.no_failure ∙ c.loop-at.invariant.no_failure;
    }

pub loop-at-preserved : goal.loop-at-preserved
loop-at-preserved g c = record {
  within = omega (arith, c.min.ensures);
  gathers = Gathers-part _ _ _ _ c.args.piece.now c.loop-at.at c.min.result _ _ _ _ _
      (same-values _ _ _ _ c.loop-at.invariant.vars c.loop-at.invariant.only) c.loop-at.invariant.gathers
      c.in_ok-block.ensures.ok;
  vars = c.in_ok-block.ensures.vars ∙ c.loop-at.invariant.vars;
  only = c.in_ok-block.ensures.only ∙ c.loop-at.invariant.only;
  sound = c.in_ok-block.ensures.sound;
  few = c.in_ok-block.ensures.few;
  no_failure = c.loop-at.invariant.no_failure;
}

pub returns-in_err-put_all-2-clause-stops : goal.returns-in_err-put_all-2-clause-stops
returns-in_err-put_all-2-clause-stops g c =
    on-err _ _ (Gathers-stopped _ _ _ c.args.piece.now c.loop-at.at _ _ _ _ c.loop-at.invariant.gathers
    (rw c.deref-2.ensures.value at c.in_err-put_all-2.ensures.prefix))

pub returns-clause-ok : goal.returns-clause-ok
returns-clause-ok g c =
    Gathers-piece _ _ _ c.args.piece.now c.loop-at.at _ _ _ _ c.loop-at-test.false c.loop-at.invariant.gathers
    (rw c.deref-2.ensures.value at c.in_ok-put_all-2.ensures.ok)
