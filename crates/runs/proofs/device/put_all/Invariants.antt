use Rattle.runs.proofs.Prelude.{Appends, GivesFirst, [], length, take, ◌-◌, ◌<◌, ◌≡◌, ◌≤◌}
use Rattle.runs.proofs.device.put_all.Given as goal

abbrev pub invariant-loop-at : goal.invariant-loop-at
invariant-loop-at g l = record {
  within : l.at ≤ length l.piece;
  written : Appends (g.W.ByteOut.contents l.fn.writer) (g.W.ByteOut.contents l.writer) (take l.at l.piece);
  nothing : l.piece ≡ [] → l.writer ≡ l.fn.writer;
  untouched : l.at ≡ 0 → g.W.ByteOut.given l.writer ≡ g.W.ByteOut.given l.fn.writer;
  first : 0 < l.at → GivesFirst (g.W.ByteOut.given l.fn.writer) (g.W.ByteOut.given l.writer) l.piece;
  no_failure : g.W.ByteOut.failures l.writer ≡ g.W.ByteOut.failures l.fn.writer;
}

abbrev pub decreases-loop-at : goal.decreases-loop-at
decreases-loop-at g l = length l.piece - l.at
