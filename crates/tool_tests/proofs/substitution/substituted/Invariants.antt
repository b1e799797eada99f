use Rattle.std.proofs.Common.{◌≡◌, length}
use Rattle.tool_tests.proofs.substitution.substituted.Given as goal

abbrev pub invariant-loop-rest : goal.invariant-loop-rest
invariant-loop-rest l = l.writer.failures ≡ 0

abbrev pub decreases-loop-rest : goal.decreases-loop-rest
decreases-loop-rest l = length l.rest
