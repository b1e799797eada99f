use Rattle.plural_rule.proofs.Prelude.{OccursAt, length, ℕ, ◌+◌, ◌-◌, ◌≤◌}
use Rattle.plural_rule.proofs.header.after_first.Given as goal

abbrev pub invariant-loop-before : goal.invariant-loop-before
invariant-loop-before l = record {
  inside : l.end ≤ length l.text;
  none : (j : ℕ) → j + length l.name ≤ l.end → OccursAt l.text l.name j → ⊥;
}

abbrev pub decreases-loop-before : goal.decreases-loop-before
decreases-loop-before l = length l.text - l.end
