use Rattle.std.specs.Prelude.{IsUtf8}
use Rattle.po_entry.proofs.AdmittedTexts.{both, of_one, of_option}
use Rattle.po_entry.proofs.ref_checks.is_all_utf8.Goals as goal

pub returns : goal.returns
returns c =
    let P = IsUtf8 in
    let id = rw c.id.ensures at c.meets.ensures in
    let forms = rw c.forms.ensures at c.are_utf8.ensures in
    both P _ _ _ _
    (both P _ _ _ _
    (both P _ _ _ _
    (both P _ _ _ _
    (both P _ _ _ _
    (both P _ _ _ _ (of_option P _ _ _ c.previous_context.ensures c.optional_meets.ensures)
    (of_option P _ _ _ c.previous_id.ensures c.optional_meets-2.ensures))
    (of_option P _ _ _ c.previous_plural.ensures c.optional_meets-3.ensures))
    (of_option P _ _ _ c.context.ensures c.optional_meets-4.ensures))
    (of_one P _ _ id))
    (of_option P _ _ _ c.plural.ensures c.optional_meets-5.ensures))
    forms
