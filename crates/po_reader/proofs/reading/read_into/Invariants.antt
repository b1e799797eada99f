use Rattle.po_reader.proofs.Prelude.{IsReadSoFar, List, TextEntry, length, ◌++◌, ◌≡◌}
use Rattle.po_reader.proofs.reading.read_into.Given as goal

-- the entries so far are added
abbrev pub invariant-loop-pieces : goal.invariant-loop-pieces
invariant-loop-pieces l = record {
  before : List TextEntry;
  read : IsReadSoFar l.text l.pieces before;
  holds : l.store ≡ l.fn.store ++ before;
}

abbrev pub decreases-loop-pieces : goal.decreases-loop-pieces
decreases-loop-pieces l = length l.pieces.lines
