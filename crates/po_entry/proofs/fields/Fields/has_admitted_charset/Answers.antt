use Rattle.po_entry.proofs.Prelude.{sym, ◌∙◌}
use Rattle.po_entry.proofs.Headers.{first_text}
use Rattle.po_entry.proofs.fields.Fields.has_admitted_charset.Goals as goal

pub returns-in-Some : goal.returns-in-Some
returns-in-Some c =
    let form = rw c.deref.ensures.value at (first_text c.deref.result.now c.in-Some.form.now c.in-Some.ensures.value) in
    let exact = rw (c.deref-in-Some.ensures.value, ← form) at c.admits_charset.ensures in (
      λ t _. exact.0 t,
      λ h. exact.1 (h (sym c.is_header.ensures ∙ c.if-not-is_header.false)),
    )
