use Rattle.runs.proofs.Prelude.{Appends, joined, take, ◌≡◌}
use Rattle.runs.proofs.program_fault.put_parts.Given as goal

abbrev pub invariant-loop-part : goal.invariant-loop-part
invariant-loop-part g l = record {
  written : Appends (g.E.ByteOut.contents l.fn.err) (g.E.ByteOut.contents l.err) (joined (take l.part-index l.parts));
  no_failure : g.E.ByteOut.failures l.err ≡ g.E.ByteOut.failures l.fn.err;
}
