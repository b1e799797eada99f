use Rattle.po_syntax.proofs.Prelude.{IsString, drop, length, views, ◌≤◌}
use Rattle.std.specs.Prelude.{All}
use Rattle.po_syntax.proofs.pieces.before_strings.Given as goal

abbrev pub invariant-loop-count : goal.invariant-loop-count
invariant-loop-count l = record {
  within : l.count ≤ length l.items;
  strings : All IsString (drop l.count (views l.items));
}

abbrev pub decreases-loop-count : goal.decreases-loop-count
decreases-loop-count l = l.count
