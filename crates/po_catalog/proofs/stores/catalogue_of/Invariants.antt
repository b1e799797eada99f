use Rattle.po_catalog.proofs.Prelude.{All, IsCatalogueEntry, length, take, ◌≡◌, ◌≤◌}
use Rattle.std.specs.Vec.{vec_capacity}
use Rattle.po_catalog.proofs.stores.catalogue_of.Given as goal

abbrev pub invariant-loop-index : goal.invariant-loop-index
invariant-loop-index l = record {
  copied : l.entries.items ≡ take l.index l.store;
  valid : All IsCatalogueEntry l.entries.items;
  room : length l.store ≤ vec_capacity l.entries;
}
