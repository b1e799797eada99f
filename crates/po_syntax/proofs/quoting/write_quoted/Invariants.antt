use Rattle.po_syntax.proofs.Prelude.{List, length, quoted, written_bytes, ℕ, ◌++◌, ◌+◌, ◌∷◌, ◌≡◌, ◌≤◌}
use Rattle.std.specs.Vec.{vec_len, vec_capacity}
use Rattle.po_syntax.proofs.quoting.write_quoted.Given as goal

abbrev pub invariant-loop-byte : goal.invariant-loop-byte
invariant-loop-byte l = record {
  written :
      (written : List ℕ)
      × (l.out.items ≡ l.fn.out.items ++ written)
      × (written ++ written_bytes l.rest ≡ 34 ∷ written_bytes l.bytes);
  room : vec_len l.fn.out + length (quoted l.bytes) ≤ vec_capacity l.fn.out
      → vec_len l.out + length (written_bytes l.rest) + 1 ≤ vec_capacity l.out;
}

abbrev pub decreases-loop-byte : goal.decreases-loop-byte
decreases-loop-byte l = length l.rest
