use Rattle.envsubst.proofs.Prelude.{drop, pairs_in, value_of, ◌≡◌}
use Rattle.envsubst.proofs.replacements.first_value.Given as goal

abbrev pub invariant-loop-known : goal.invariant-loop-known
invariant-loop-known l = value_of (pairs_in (drop l.known-index l.vars)) l.name ≡ value_of (pairs_in l.vars) l.name
