use Rattle.envsubst.proofs.Prelude.{Advances, drop, is_undecided, length, min, true, values_of_replacements, ◌*◌, ◌++◌, ◌+◌, ◌-◌, ◌≡◌, ◌≤◌}
use Rattle.envsubst.proofs.substituter.pass.Given as goal

abbrev pub invariant-loop-at : goal.invariant-loop-at
invariant-loop-at g l = record {
  within : l.at ≤ length l.piece;
  undecided : is_undecided l.held.items ≡ true;
  advances : Advances (values_of_replacements l.replacements) (l.fn.held.items ++ l.piece)
      (l.held.items ++ drop l.at l.piece) (g.W.ByteOut.contents l.fn.writer) (g.W.ByteOut.contents l.writer);
  no_failure : g.W.ByteOut.failures l.writer ≡ g.W.ByteOut.failures l.fn.writer;
}

abbrev pub decreases-loop-at : goal.decreases-loop-at
decreases-loop-at g l = 2 * (length l.piece - l.at) + min 1 (length l.held.items)
