use Rattle.runs.proofs.Prelude.{joined, take, ◌≡◌}
use Rattle.runs.proofs.program_fault.line_of.Given as goal

abbrev pub invariant-loop-part : goal.invariant-loop-part
invariant-loop-part l = l.line.items ≡ joined (take l.part-index l.parts)
