use Rattle.po_syntax.proofs.Prelude.{LeftStops}
use Rattle.po_syntax.proofs.Faults.{is_text_fault}
use Rattle.po_syntax.proofs.PieceTexts.{first_of_text}
use Rattle.po_syntax.proofs.pieces.Pieces.first_fault.Goals as goal

pub returns-in_default : goal.returns-in_default
returns-in_default c =
    let first : LeftStops c.args.self.now c.unwrap_or.result.kind c.unwrap_or.result.line =
    rw (c.unwrap_or.ensures, ← c.self.view_is)
    (first_of_text c.self.invariant c.byte_fault.result c.args.error c.byte_fault.ensures
    (rw (← c.self.view_is) at (c.requires.fault c.in_default.not-OutOfMemory))) in
    is_text_fault first
