use Rattle.po_catalog.proofs.Prelude.{IsEntry-emptied, [], map, texts, with_items_is, ◌∙◌, ◌≡◌}
use Rattle.po_catalog.proofs.entry.Entry.empty_forms.Goals as goal

pub invariant_of-self : goal.invariant_of-self
invariant_of-self c =
    let written = with_items_is c.self.inside.forms c.empty_texts.new.list
    (c.empty_texts.auto.list ∙ c.deref_mut.ensures.len) in
    let forms : texts c.empty_texts.new.list ≡ map (λ _. []) (texts c.self.inside.forms.items) =
    rw (← c.deref_mut.ensures.value) c.empty_texts.ensures in
    rw (written, forms) (IsEntry-emptied _ c.self.invariant)
