use Rattle.po_compile.proofs.Prelude.{IsReadSoFar, List, TextEntry, length, map, without_comments, ◌≡◌}
use Rattle.po_compile.proofs.collecting.collect.Given as goal

abbrev pub invariant-loop-pieces : goal.invariant-loop-pieces
invariant-loop-pieces l = record {
  before : List TextEntry;
  read : IsReadSoFar l.text l.pieces before;
  kept : l.entries ≡ map without_comments before;
}

abbrev pub decreases-loop-pieces : goal.decreases-loop-pieces
decreases-loop-pieces l = length l.pieces.lines
