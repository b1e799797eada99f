use Rattle.envsubst.proofs.Prelude.{arith, drop, length, length-drop, on-err, take, take_rest, ◌-◌, ◌∙◌, ◌≤◌}
use Rattle.envsubst.proofs.Pieces.{pass-advances, pass-stops}
use Rattle.envsubst.proofs.substituter.pass.Goals as goal

pub returns-in_err-at-clause-stops : goal.returns-in_err-at-clause-stops
returns-in_err-at-clause-stops g c =
    on-err _ _ (pass-stops _ _ _ c.args.piece.now c.loop-at.at _ _ _ c.loop-at.invariant.advances
    c.in_err-at.ensures.stops)

pub loop-at-preserved : goal.loop-at-preserved
loop-at-preserved g c =
    let bound : c.in_ok-at.field-0 ≤ length
    (take (length c.args.piece.now - c.loop-at.at) (drop c.loop-at.at c.args.piece.now)) =
    c.in_ok-at.ensures.bound in
    let fits = simp (take_rest, length-drop) at bound in record {
      within = omega arith;
      undecided = c.in_ok-at.ensures.undecided;
      advances = pass-advances _ _ _ _ c.args.piece.now c.loop-at.at c.in_ok-at.field-0 _ _ _
          c.loop-at.invariant.advances c.in_ok-at.ensures.ok;
      no_failure = c.in_ok-at.ensures.no_failure ∙ c.loop-at.invariant.no_failure;
    }
