use Rattle.po_entry.proofs.Prelude.{ap, own_at, refl, split_forms, sym, ◌∙◌}
use Rattle.po_entry.proofs.EntryLayout.{forms_alone, forms_cut}
use Rattle.po_entry.proofs.entry_ref.EntryRef.translation.Goals as goal

pub returns-then-self : goal.returns-then-self
returns-then-self c =
    let row = c.self.inside.row.now in
    rw (← c.self.view_is) (ap (λ texts. texts.now) c.unwrap_or.ensures
    ∙ forms_cut (own_at c.self.inside.bytes.now row) row.key row.has_plural c.split_text.result.0.now
    c.split_text.result.1 _
    c.if-self.true refl (ap split_forms (sym c.after_key-rest.ensures) ∙ c.split_text.ensures))

pub returns : goal.returns
returns c =
    let row = c.self.inside.row.now in
    rw (← c.self.view_is) (c.after_key-rest.ensures
    ∙ forms_alone (own_at c.self.inside.bytes.now row) row.key row.has_plural c.if-self.false)
