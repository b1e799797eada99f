use Rattle.po_entry.proofs.Prelude.{drop_min, refl, take_min, ◌∙◌}
use Rattle.po_entry.proofs.TextLists.{texts_first}
use Rattle.po_entry.proofs.text_list.first_text.Goals as goal

pub returns-in_err-length : goal.returns-in_err-length
returns-in_err-length c = rw c.from_residual.ensures (texts_first _ ∙ rw c.in_err-length.ensures refl)

pub returns : goal.returns
returns c =
    rw (c.split_at.ensures.front, c.split_at.ensures.back, c.min.ensures, take_min, drop_min)
    (texts_first _ ∙ rw c.in_ok-length.ensures refl)
