use Rattle.po_catalog.proofs.Prelude.{All, All-push, IsCatalogueEntry, List, TextEntry, [], ap₂, get_or, subst, sym, take_more, ◌++◌, ◌∙◌, ◌∷◌, ◌≡◌}
use Rattle.po_catalog.proofs.stores.catalogue_of.Goals as goal

pub loop-index-preserved : goal.loop-index-preserved
loop-index-preserved c =
    let entry = c.in_ok-entry.entry in
    let copied = c.in_ok-entry.ensures in
    let copy : entry ≡ get_or c.args.store.now c.loop-index.index entry = copied ∙ c.get.ensures.entry entry in
    record {
      copied = c.push_reserved.ensures.items
          ∙ ap₂ (λ (es : List TextEntry) (e : TextEntry). es ++ e ∷ []) c.loop-index.invariant.copied copy
          ∙ sym (take_more c.args.store.now c.loop-index.index entry
          (rw c.len-index-end.ensures at c.loop-index-test.true));
      valid = subst (All IsCatalogueEntry) (sym c.push_reserved.ensures.items)
          (All-push IsCatalogueEntry c.loop-index.entries.items entry c.loop-index.invariant.valid
          (subst IsCatalogueEntry (sym copied) c.get.ensures.valid));
      room = rw c.push_reserved.ensures.capacity c.loop-index.invariant.room;
    }
