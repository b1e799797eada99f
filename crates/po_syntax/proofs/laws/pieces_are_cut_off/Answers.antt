use Rattle.po_syntax.proofs.PieceTexts.{piece_all, piece_anew, piece_ends, piece_shorter, piece_spelt, piece_stops}
use Rattle.po_syntax.proofs.laws.pieces_are_cut_off.Goals as goal

pub returns : goal.returns
returns c = record {
  spelt = piece_spelt;
  all = piece_all;
  stops = piece_stops;
  ends = piece_ends;
  anew = piece_anew;
  shorter = piece_shorter;
}
