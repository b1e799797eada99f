use Rattle.envsubst.proofs.Prelude.{get_or, is_name_byte, true, ℕ, ◌<◌, ◌≡◌}
use Rattle.envsubst.proofs.reference.name_prefix.Given as goal

abbrev pub invariant-loop-len : goal.invariant-loop-len
invariant-loop-len l = (k : ℕ) → k < l.len → is_name_byte (get_or l.bytes k 0) ≡ true
