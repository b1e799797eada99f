use Rattle.runs.proofs.Prelude.{Consumes, drop, take, vec_len, ◌+◌, ◌-◌, ◌≡◌, ◌≤◌}
use Rattle.runs.proofs.whole_input.read_whole.Given as goal

abbrev pub invariant-loop-count : goal.invariant-loop-count
invariant-loop-count g l = record {
  within : l.start + l.count ≤ vec_len l.bytes;
  limit : vec_len l.bytes ≤ l.start + 2147483648;
  before : take l.start l.bytes.items ≡ l.fn.bytes.items;
  read : Consumes (g.R.ByteIn.remaining l.fn.reader) (g.R.ByteIn.remaining l.reader)
      (take l.count (drop l.start l.bytes.items));
  no_failure : g.R.ByteIn.failures l.reader ≡ g.R.ByteIn.failures l.fn.reader;
  calls : g.R.ByteIn.calls l.reader ≤ g.R.ByteIn.calls l.fn.reader + l.count;
}

abbrev pub decreases-loop-count : goal.decreases-loop-count
decreases-loop-count g l = 2147483648 - l.count
