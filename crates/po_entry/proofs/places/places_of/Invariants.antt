use Rattle.po_entry.proofs.Prelude.{All, IsCatalogueEntry, are_placed, is_live, take, ◌≡◌}
use Rattle.po_entry.proofs.places.places_of.Given as goal

-- where the entries so far stand
abbrev pub invariant-loop-index : goal.invariant-loop-index
invariant-loop-index l = record {
  places : l.places.items ≡ are_placed is_live (take l.index l.store);
  valid : All IsCatalogueEntry (take l.index l.store);
}
