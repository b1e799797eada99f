use Rattle.po_entry.proofs.Prelude.{All, All-filter, Bool, IsCatalogueEntry, LiesIn, Row, ap, entry_at, filter, map, not, rules, subst, sym, ◌∙◌, ◌≡◌}
use Rattle.std.proofs.lemmas.Fn.{filter_same}
use Rattle.po_entry.proofs.EntryRows.{filtered, kept_live}
use Rattle.po_entry.proofs.store.Store.keep_live.Goals as goal

pub invariant_of-self : goal.invariant_of-self
invariant_of-self c =
    let live : Row → Bool = λ r. not r.obsolete in
    let bytes = c.self.inside.bytes.items in
    let rows = c.self.inside.rows.items in
    let kept : c.retain.new.self.items ≡ filter live rows =
    filter_same _ _ _ (λ x b f' k. search rules) _ _ c.retain.ensures.filtered in
    record {
      lie = subst (All (LiesIn bytes)) (sym kept) (All-filter live (LiesIn bytes) rows c.self.invariant.lie);
      valid = subst (All IsCatalogueEntry) (sym (ap (map (entry_at bytes)) kept ∙ filtered bytes rows))
          (All-filter kept_live IsCatalogueEntry (map (entry_at bytes) rows) c.self.invariant.valid);
    }

pub returns : goal.returns
returns c =
    let live : Row → Bool = λ r. not r.obsolete in
    let kept : c.retain.new.self.items ≡ filter live c.self.inside.rows.items =
    filter_same _ _ _ (λ x b f' k. search rules) _ _ c.retain.ensures.filtered in
    ap (map (entry_at c.self.inside.bytes.items)) kept ∙ filtered c.self.inside.bytes.items c.self.inside.rows.items
    ∙ ap (filter kept_live) c.self.view_is
