use Rattle.plural_rule.proofs.Prelude.{Some, drop, length, run, stored, tree_of, ◌*◌, ◌+◌, ◌-◌, ◌<◌, ◌^◌, ◌∷◌, ◌≡◌, ◌≤◌}
use Rattle.plural_rule.specs.Internal.Evaluator.{outcome}
use Rattle.plural_rule.proofs.evaluator.evaluate_within.Given as goal

abbrev pub invariant-loop-index : goal.invariant-loop-index
invariant-loop-index g l = record {
  runs : run g.row.N l.count (drop l.index l.instructions) 0 (l.newest ∷ stored l.stack l.len) l.steps
      ≡ Some (outcome (tree_of l.instructions) l.count l.initial.steps);
  some : l.index < length l.instructions → 1 ≤ l.len;
  inside : l.index < length l.instructions → l.len < g.row.N;
  bound : l.steps ≤ 2 ^ 63 + 2 ^ 16 * l.index;
}

abbrev pub decreases-loop-index : goal.decreases-loop-index
decreases-loop-index g l = length l.instructions - l.index
