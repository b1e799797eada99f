use Rattle.po_syntax.proofs.Prelude.{length, lines_of_rest}
use Rattle.po_syntax.proofs.PieceLines.{ReadLent}
use Rattle.po_syntax.proofs.pieces.Pieces.add_piece.Given as goal

abbrev pub invariant-loop-rest : goal.invariant-loop-rest
invariant-loop-rest l =
    ReadLent l.size l.self (record { text = l.self.text; number = l.line; lines = lines_of_rest l.rest }) l.items.items
    l.len

abbrev pub decreases-loop-rest : goal.decreases-loop-rest
decreases-loop-rest l = length (lines_of_rest l.rest)
