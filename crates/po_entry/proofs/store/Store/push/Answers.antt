use Rattle.po_entry.proofs.Prelude.{All, IsCatalogueEntry, List, Row, TextEntry, [], ap, arith, entry_view, length, refl, subst, sym, ◌++◌, ◌<◌, ◌^◌, ◌∙◌, ◌∷◌}
use Rattle.po_entry.proofs.EntryRows.{Pushed, always, keeps, pushed}
use Rattle.po_entry.proofs.store.Store.push.Goals as goal

added : (c : goal.In_ok-push) → Pushed c.self.inside.bytes.items c.add_entry.new.bytes.items
    c.self.inside.rows.items c.push.new.self.items (entry_view c.args.fields.now)
added c =
    let small : length c.add_entry.new.bytes.items < 2 ^ 64 =
    omega (arith, c.add_entry.new.bytes.ok.0, c.add_entry.new.bytes.ok.1, c.add_entry.new.bytes.small) in
    pushed _ _ _ _ (entry_view c.args.fields.now) c.self.invariant.lie c.self.invariant.valid c.requires small
    c.in_ok-row.ensures.added
    (c.in_ok-push.ensures.items
    ∙ ap (λ (row : Row). c.self.inside.rows.items ++ row ∷ []) c.in_ok-row.ensures.row)

pub invariant_of-self : goal.invariant_of-self
invariant_of-self c =
    let k = keeps _ _ _ _ c.add_entry.ensures.grows refl c.self.invariant.lie in
    record { lie = k.lie; valid = subst (All IsCatalogueEntry) (sym k.same) c.self.invariant.valid }

pub invariant_of-self-in_err-push : goal.invariant_of-self-in_err-push
invariant_of-self-in_err-push c =
    let k = keeps _ _ _ _ c.add_entry.ensures.grows c.in_err-push.ensures.items c.self.invariant.lie in
    record { lie = k.lie; valid = subst (All IsCatalogueEntry) (sym k.same) c.self.invariant.valid }

pub invariant_of-self-2 : goal.invariant_of-self-2
invariant_of-self-2 c = let p = added c in record { lie = p.lie; valid = p.valid }

pub returns-in_err-row-clause-unchanged : goal.returns-in_err-row-clause-unchanged
returns-in_err-row-clause-unchanged c =
    let k = keeps _ _ _ _ c.add_entry.ensures.grows refl c.self.invariant.lie in
    always c.from_residual.result (k.same ∙ c.self.view_is)

pub returns-in_err-push-clause-unchanged : goal.returns-in_err-push-clause-unchanged
returns-in_err-push-clause-unchanged c =
    let k = keeps _ _ _ _ c.add_entry.ensures.grows c.in_err-push.ensures.items c.self.invariant.lie in
    always c.from_residual-in_err-push.result (k.same ∙ c.self.view_is)

pub returns-clause-ok : goal.returns-clause-ok
returns-clause-ok c =
    (added c).more ∙ ap (λ (es : List TextEntry). es ++ entry_view c.args.fields.now ∷ []) c.self.view_is
