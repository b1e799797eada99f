use Rattle.po_entry.proofs.Prelude.{All, All-push, Bool, EntryPlace, IsCatalogueEntry, TextEntry, [], ap, ap₂, are_placed, arith, is_live, length, map-append, not, place_of, subst, sym, take, take_more, ℕ, ◌++◌, ◌+◌, ◌<◌, ◌∙◌, ◌∷◌, ◌≡◌}
use Rattle.po_entry.proofs.places.places_of.Goals as goal

abbrev place : ℕ → Bool → EntryPlace
place line is_live = record { line = line; is_live = is_live }

pub loop-index-preserved : goal.loop-index-preserved
loop-index-preserved c =
    let so_far = c.loop-index.invariant in
    let i = c.loop-index.index in
    let store = c.args.store.now in
    let entry = c.get-entry.result in
    let inside : i < length store = omega (arith, c.loop-index-test.true, c.len-index-end.ensures) in
    let more : take (i + 1) store ≡ take i store ++ entry ∷ [] =
    take_more store i entry inside ∙ ap (λ (e : TextEntry). take i store ++ e ∷ [])
    (sym (c.get-entry.ensures.entry entry)) in
    record {
      places = c.in_ok-push.ensures.items
          ∙ ap (λ p. c.loop-index.places.items ++ p ∷ [])
          (ap₂ place c.line.ensures (ap not c.obsolete.ensures))
          ∙ ap (λ l. l ++ place_of is_live entry ∷ []) so_far.places
          ∙ sym (ap (are_placed is_live) more ∙ map-append (place_of is_live) (take i store) (entry ∷ []));
      valid = subst (All IsCatalogueEntry) (sym more)
          (All-push IsCatalogueEntry (take i store) entry so_far.valid c.get-entry.ensures.valid);
    }
