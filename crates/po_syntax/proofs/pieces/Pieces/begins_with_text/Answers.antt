use Rattle.po_syntax.proofs.Prelude.{refl, take, take_min, ◌≡◌}
use Rattle.po_syntax.proofs.PieceTexts.{rest_text}
use Rattle.po_syntax.proofs.pieces.Pieces.begins_with_text.Goals as goal

pub returns : goal.returns
returns c = λ count len.
    let front : c.split_at.result.0.now ≡ take c.args.len c.unwrap_or-rest.result.now =
    rw (c.split_at.ensures.front, c.min.ensures) (take_min c.args.len c.unwrap_or-rest.result.now) in
    let text = c.is_text.ensures in
    let lines = rest_text c.self.inside.rest c.unwrap_or-rest.result _ c.unwrap_or-rest.ensures refl count c.args.len
    (rw (← c.self.view_is) at len) in
    rw (← c.self.view_is) (λ yes. lines.0 (rw front at (text.0 yes)), λ clean. text.1 (rw front (lines.1 clean)))
