use Rattle.po_entry.proofs.Prelude.{All, All-append, IsCatalogueEntry, List, Row, TextEntry, ap, ap₂, entries_in, entry_at, length, map, moved, subst, sym, ℕ, ◌++◌, ◌∙◌}
use Rattle.po_entry.proofs.EntryRows.{appended}
use Rattle.po_entry.proofs.store.Store.append.Goals as goal

pub invariant_of-self-2 : goal.invariant_of-self-2
invariant_of-self-2 c =
    let drafts = c.args.drafts.now in
    let both = appended c.self.inside.bytes.items c.extend_from_slice.new.self.items drafts.bytes.items
    c.self.inside.rows.items c.add_rows.new.rows.items drafts.rows.items
    (length c.as_slice-start.result.now) c.self.invariant.lie c.requires.lie
    (c.in_ok-extend_from_slice.ensures.items
    ∙ ap (λ (l : List ℕ). c.self.inside.bytes.items ++ l) c.deref.ensures.value)
    (ap length c.as_slice-start.ensures.value)
    (c.add_rows.ensures ∙ ap₂
    (λ (xs : List Row) (ys : List Row). xs ++ map (moved (length c.as_slice-start.result.now)) ys)
    c.in_ok-reserve.ensures.items
    c.deref-2.ensures.value) in
    record {
      lie = both.0;
      valid = subst (All IsCatalogueEntry) (sym both.1)
          (All-append IsCatalogueEntry (map (entry_at c.self.inside.bytes.items) c.self.inside.rows.items)
          (entries_in drafts) c.self.invariant.valid c.requires.valid);
    }

pub returns-clause-ok : goal.returns-clause-ok
returns-clause-ok c =
    let drafts = c.args.drafts.now in
    let both = appended c.self.inside.bytes.items c.extend_from_slice.new.self.items drafts.bytes.items
    c.self.inside.rows.items c.add_rows.new.rows.items drafts.rows.items
    (length c.as_slice-start.result.now) c.self.invariant.lie c.requires.lie
    (c.in_ok-extend_from_slice.ensures.items
    ∙ ap (λ (l : List ℕ). c.self.inside.bytes.items ++ l) c.deref.ensures.value)
    (ap length c.as_slice-start.ensures.value)
    (c.add_rows.ensures ∙ ap₂
    (λ (xs : List Row) (ys : List Row). xs ++ map (moved (length c.as_slice-start.result.now)) ys)
    c.in_ok-reserve.ensures.items
    c.deref-2.ensures.value) in
    both.1 ∙ ap (λ (es : List TextEntry). es ++ entries_in drafts) c.self.view_is
