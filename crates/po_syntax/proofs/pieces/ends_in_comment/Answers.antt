use Rattle.po_syntax.proofs.Prelude.{arith, length, ◌-◌, ◌<◌}
use Rattle.po_syntax.proofs.PieceTexts.{comment_at}
use Rattle.po_syntax.proofs.pieces.ends_in_comment.Goals as goal

pub returns-in-Some : goal.returns-in-Some
returns-in-Some c =
    let items = c.args.items.now in
    let some : 0 < length items = c.in-Some.ensures.item.3.0 in
    let is = c.is_comment.ensures in
    let at = comment_at items (length items - 1) c.in-Some.item.now (omega arith) c.in-Some.ensures.value in
    (λ h. at.0 (is.0 h), λ h. is.1 (at.1 h))
