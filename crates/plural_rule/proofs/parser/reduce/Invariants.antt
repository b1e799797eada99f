use Rattle.plural_rule.proofs.Prelude.{Grows, IsOperand, List, Tree, Waiting, held, reduce}
use Rattle.plural_rule.proofs.ParserSteps.{Reduces}
use Rattle.plural_rule.proofs.parser.reduce.Given as goal

abbrev pub invariant-loop-top : goal.invariant-loop-top
invariant-loop-top l = record {
  room : Grows l.codes l.fn.before l.codes l.parser 0 0;
  reduces : (waiting : List Waiting) (tree : Tree) → IsOperand (held l.fn.room l.codes l.fn.before) waiting tree
      → Reduces l.next_level (held l.room l.codes l.parser) (reduce l.next_level waiting tree);
}

abbrev pub decreases-loop-top : goal.decreases-loop-top
decreases-loop-top l = l.parser.count
