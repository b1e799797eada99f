use Rattle.po_syntax.proofs.Prelude.{AreOfText, LinesLeft, ap, arith, length-map, subst, view, ◌≡◌}
use Rattle.po_syntax.proofs.Faults.{is_text_fault}
use Rattle.po_syntax.proofs.PieceTexts.{clean_piece, has_fault, piece_few, piece_hold, piece_whole, read_of_text, text_holds_other}
use Rattle.po_syntax.proofs.pieces.Pieces.next.Goals as goal

pub unwrap-requires : goal.unwrap-requires
unwrap-requires c =
    has_fault _ c.byte_fault.result c.byte_fault.ensures
    (rw (← c.self.view_is) at
    (text_holds_other c.in-Ok.ensures.cut.0 (subst AreOfText c.self.view_is c.self.invariant) c.begins_with_text.result
    c.begins_with_text.ensures
    c.if-not-begins_with_text.true))

pub returns-then-not-begins_with_text-clause-fault : goal.returns-then-not-begins_with_text-clause-fault
returns-then-not-begins_with_text-clause-fault c =
    rw (← c.self.view_is) (is_text_fault (rw c.unwrap.ensures at c.byte_fault.ensures))

pub returns-clause-piece : goal.returns-clause-piece
returns-clause-piece c =
    let text : c.self.inside.text.now ≡ c.args.self.now.text = ap (λ (left : LinesLeft). left.text) c.self.view_is in
    let cut = c.in-Ok.ensures.cut.0 in
    rw text (clean_piece cut ((c.begins_with_text.ensures cut.read.count cut.len_is).0 c.if-not-begins_with_text.false))

pub invariant_of-self : goal.invariant_of-self
invariant_of-self c =
    let piece = returns-clause-piece c in
    read_of_text piece.read piece.clean (subst AreOfText c.self.view_is c.self.invariant)

pub returns-clause-whole : goal.returns-clause-whole
returns-clause-whole c = piece_whole (returns-clause-piece c) (subst AreOfText c.self.view_is c.self.invariant)

pub returns-clause-hold : goal.returns-clause-hold
returns-clause-hold c = piece_hold (returns-clause-piece c)

pub returns-clause-lent : goal.returns-clause-lent
returns-clause-lent c =
    let cut = c.in-Ok.ensures.cut in
    cut.1 ((c.begins_with_text.ensures cut.0.read.count cut.0.len_is).0 c.if-not-begins_with_text.false)

pub returns-clause-few : goal.returns-clause-few
returns-clause-few c =
    let items = c.add_piece.new.items in
    omega (
      arith,
      items.ok.0,
      length-map items.items view,
      piece_few (returns-clause-piece c) (subst AreOfText c.self.view_is c.self.invariant),
    )
