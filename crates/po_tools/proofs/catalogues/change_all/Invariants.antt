use Rattle.po_tools.proofs.Prelude.{All, IsCatalogueEntry, changed, drop, map, take, ◌++◌, ◌≡◌}
use Rattle.po_tools.proofs.catalogues.change_all.Given as goal

abbrev pub invariant-loop-entry : goal.invariant-loop-entry
invariant-loop-entry l = record {
  changed : l.entries ≡ map (changed l.selection) (take l.entry-index l.initial.entries)
      ++ drop l.entry-index l.initial.entries;
  valid : All IsCatalogueEntry l.entries;
}
