use Rattle.mo_file.proofs.Prelude.{IsFirstBelow, IsOutside, IsUnterminated, ℕ, ◌<◌}
use Rattle.mo_file.proofs.checking.check_strings.Given as goal

abbrev pub invariant-loop-i : goal.invariant-loop-i
invariant-loop-i g l = record {
  inside : (k : ℕ) → k < l.i → ¬ IsOutside l.header.order l.bytes k;
  terminated : IsFirstBelow (IsUnterminated l.header.order l.bytes) l.i l.unterminated;
}
