use Rattle.po_catalog.proofs.Prelude.{sym, ◌∙◌}
use Rattle.po_entry.proofs.Headers.{first_text}
use Rattle.po_catalog.proofs.entry.Entry.has_admitted_charset.Goals as goal

pub returns-in-Some : goal.returns-in-Some
returns-in-Some c =
    let form = first_text c.forms.result.now c.in-Some.form.now c.in-Some.ensures.value in
    let exact = rw (c.deref.ensures.value, ← form, c.forms.ensures) at c.admits_charset.ensures in (
      λ t _. exact.0 t,
      λ h. exact.1 (h (sym c.is_header.ensures ∙ c.if-not-is_header.false)),
    )
