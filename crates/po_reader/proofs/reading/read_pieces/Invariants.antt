use Rattle.po_reader.proofs.Prelude.{All, HoldsText, IsUtf8, List, OfString, OpenPieces, ReadsUpTo, TextItem, length, true, ◌≡◌}
use Rattle.po_reader.proofs.reading.read_pieces.Given as goal

abbrev pub invariant-reading : goal.invariant-reading
invariant-reading l = record {
  items : List TextItem;
  others : OpenPieces l.size l.fn.pieces l.pieces items;
  hold : All HoldsText items;
  utf8 : l.are_utf8 ≡ true → All (OfString IsUtf8) items;
  read : ReadsUpTo l.with_comments items l.head l.drafts;
}

abbrev pub decreases-reading : goal.decreases-reading
decreases-reading l = length l.pieces.lines
