use Rattle.msgattrib.proofs.Prelude.{AreSelected, IsReadSoFar, List, TextEntry, [], length, ◌≡◌}
use Rattle.msgattrib.proofs.selected_text.selected_text.Given as goal

abbrev pub invariant-loop-pieces : goal.invariant-loop-pieces
invariant-loop-pieces l = record {
  before : List TextEntry;
  read : IsReadSoFar l.text l.pieces before;
  selected : AreSelected l.selection before l.parts l.hashes.items;
  emptied : l.store ≡ [];
}

abbrev pub decreases-loop-pieces : goal.decreases-loop-pieces
decreases-loop-pieces l = length l.pieces.lines
