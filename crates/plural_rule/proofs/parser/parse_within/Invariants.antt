use Rattle.plural_rule.proofs.Prelude.{entries_in, held, length, weight, ◌+◌, ◌≤◌}
use Rattle.plural_rule.proofs.ParserSteps.{Reached}
use Rattle.plural_rule.proofs.parser.parse_within.Given as goal

abbrev pub invariant-loop-rest : goal.invariant-loop-rest
invariant-loop-rest g l = record {
  reached : Reached l.text l.rest (held l.room l.codes l.parser) l.parser.complete;
  weight : l.parser.len + weight (entries_in l.codes l.parser.count) + length l.rest ≤ length l.text;
  count : l.parser.count + length l.rest ≤ length l.text;
}

abbrev pub decreases-loop-rest : goal.decreases-loop-rest
decreases-loop-rest g l = length l.rest
