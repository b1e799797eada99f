use Rattle.envsubst.proofs.Prelude.{length, map, names_in, ◌++◌, ◌≡◌}
use Rattle.envsubst.proofs.reference.names.Given as goal

abbrev pub invariant-loop-after : goal.invariant-loop-after
invariant-loop-after l = map (λ name. name.now) l.names.items ++ names_in l.text ≡ names_in l.format

abbrev pub decreases-loop-after : goal.decreases-loop-after
decreases-loop-after l = length l.text
