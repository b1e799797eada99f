use Rattle.runs.proofs.Prelude.{ap, arith, drop, length, nat_tests, take, take_rest, ◌-◌, ◌≡◌, ◌≤◌}
use Rattle.std.proofs.Common.{length-drop}
use Rattle.runs.proofs.Devices.{Appends-rest, Gives-next}
use Rattle.runs.proofs.device.put_all.Goals as goal

pub loop-at-preserved : goal.loop-at-preserved
loop-at-preserved g c =
    let bound : c.in-Ok.taken ≤ length
    (take (length c.args.piece.now - c.loop-at.at) (drop c.loop-at.at c.args.piece.now)) = c.in-Ok.ensures.bound in
    let fits = simp (take_rest, length-drop) at bound in record {
      within = omega arith;
      written = Appends-rest _ _ _ c.loop-at.at c.in-Ok.taken c.args.piece.now c.loop-at.invariant.written
          c.in-Ok.ensures.bytes;
      nothing = λ empty. let none : length c.args.piece.now ≡ 0 = ap length empty in absurd (omega arith);
      untouched = λ none. absurd (omega (arith, none, c.in-Ok.taken-test.1));
      first = λ more. Gives-next _ _ _ c.loop-at.at c.args.piece.now c.loop-at.invariant.untouched
          c.loop-at.invariant.first c.put.ensures.given;
      no_failure = grind (arith, nat_tests, c.in-Ok.ensures.fails, c.in-Ok.taken-test.1);
    }
