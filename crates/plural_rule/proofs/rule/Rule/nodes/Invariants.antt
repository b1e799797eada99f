use Rattle.plural_rule.proofs.Prelude.{drop, nodes, ◌*◌, ◌+◌, ◌^◌, ◌≡◌, ◌≤◌}
use Rattle.plural_rule.proofs.Programs.{all_begin}
use Rattle.plural_rule.proofs.rule.Rule.nodes.Given as goal

abbrev pub invariant-loop-instruction : goal.invariant-loop-instruction
invariant-loop-instruction l = record {
  all : l.count + all_begin (drop l.instruction-index l.instructions) ≡ nodes l.self.tree;
  fits : l.count ≤ 2 ^ 16 * l.instruction-index;
}
