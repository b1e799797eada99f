use Rattle.envsubst.proofs.Prelude.{false, length, take, values_of_substituter, ◌++◌, ◌-◌, ◌≡◌, ◌≤◌}
use Rattle.envsubst.proofs.Runs.{Gathers}
use Rattle.envsubst.proofs.whole_input.feed_in_blocks.Given as goal

abbrev pub invariant-loop-at : goal.invariant-loop-at
invariant-loop-at g l = record {
  within : l.at ≤ length l.piece;
  gathers : Gathers (values_of_substituter l.fn.substituter)
      (l.fn.substituter.held ++ take l.at l.piece) l.substituter.held (g.W.ByteOut.contents l.fn.writer)
      (g.W.ByteOut.contents l.writer) l.block.items;
  vars : l.substituter.vars ≡ l.fn.substituter.vars;
  only : l.substituter.only ≡ l.fn.substituter.only;
  sound : l.substituter.has_failed ≡ false;
  few : length l.substituter.held ≤ 257;
  no_failure : g.W.ByteOut.failures l.writer ≡ g.W.ByteOut.failures l.fn.writer;
}

abbrev pub decreases-loop-at : goal.decreases-loop-at
decreases-loop-at g l = length l.piece - l.at
