use Rattle.envsubst.proofs.Prelude.{IfSome, None, [], false, length, names_given, pairs_in, values_of, ◌+◌, ◌≡◌, ◌≤◌}
use Rattle.envsubst.proofs.Runs.{GaveEach, HasFed}
use Rattle.envsubst.proofs.whole_input.substitute_all.Given as goal

abbrev pub invariant-loop : goal.invariant-loop
invariant-loop g l = record {
  fed : HasFed (values_of (pairs_in l.fn.vars) (names_given l.fn.only)) (g.R.ByteIn.remaining l.fn.reader)
      (g.R.ByteIn.remaining l.reader) l.substituter.held (g.W.ByteOut.contents l.fn.writer)
      (g.W.ByteOut.contents l.writer);
  vars : l.substituter.vars ≡ pairs_in l.fn.vars;
  only : l.substituter.only ≡ names_given l.fn.only;
  sound : l.substituter.has_failed ≡ false;
  few : length l.substituter.held ≤ 257;
  empty : IfSome l.block (λ b. b.items ≡ []);
  plain : l.fn.block ≡ None → l.block ≡ None;
  calls : g.R.ByteIn.calls l.reader ≡ g.R.ByteIn.calls l.fn.reader + l.counter;
  gave : GaveEach (g.R.ByteIn.remaining l.fn.reader) (g.R.ByteIn.remaining l.reader) l.counter;
  no_read_failure : g.R.ByteIn.failures l.reader ≡ g.R.ByteIn.failures l.fn.reader;
  no_write_failure : g.W.ByteOut.failures l.writer ≡ g.W.ByteOut.failures l.fn.writer;
}
