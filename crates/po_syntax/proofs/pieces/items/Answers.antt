use Rattle.po_syntax.proofs.Prelude.{IfOk-weaker, [], arith, length-map, view, views, ◌≡◌}
use Rattle.std.proofs.Common.{IfOk}
use Rattle.po_syntax.proofs.Lines.{items-few}
use Rattle.po_syntax.proofs.Faults.{ok_both}
use Rattle.po_syntax.proofs.PieceTexts.{piece_all}
use Rattle.po_syntax.proofs.pieces.items.Goals as goal

-- the text spells the items of a piece that is all of it

pub returns-clause-found : goal.returns-clause-found
returns-clause-found c =
    let over : IfOk c.next.result (λ items. c.next.new.self.lines ≡ []) = c.next.ensures.whole (omega arith) in
    ok_both c.next.result (λ items piece none. c.in_ok-pieces.ensures.found (views items.items)
    (piece_all _ _ _ _ piece none)) c.next.ensures.piece over

pub returns-clause-few : goal.returns-clause-few
returns-clause-few c =
    IfOk-weaker c.next.result _ _
    (λ items h. omega (
      arith,
      items.ok.0,
      length-map items.items view,
      items-few c.args.text.now (views items.items) h.lines,
    )) (returns-clause-found c)
