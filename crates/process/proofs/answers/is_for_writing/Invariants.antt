use Rattle.process.proofs.Prelude.{is_for_writing, length, ◌≡◌}
use Rattle.process.proofs.answers.is_for_writing.Given as goal

-- no line before the rest begins with `flags:`
abbrev pub invariant-loop-after : goal.invariant-loop-after
invariant-loop-after l = is_for_writing l.info ≡ is_for_writing l.rest

abbrev pub decreases-loop-after : goal.decreases-loop-after
decreases-loop-after l = length l.rest
