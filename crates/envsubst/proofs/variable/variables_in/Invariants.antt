use Rattle.envsubst.proofs.Prelude.{map, pairs_in, take, variables_of, ◌≡◌}
use Rattle.envsubst.proofs.variable.variables_in.Given as goal

abbrev pub invariant-loop-entry : goal.invariant-loop-entry
invariant-loop-entry l =
    pairs_in l.variables.items ≡ variables_of (map (λ entry. entry.items) (take l.entry-index l.entries))
