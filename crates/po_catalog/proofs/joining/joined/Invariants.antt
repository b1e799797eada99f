use Rattle.po_catalog.proofs.Prelude.{IsCatalogueEntry, drop, entries_of, input_entries, joined, joined_from, ◌++◌, ◌≡◌}
use Rattle.std.proofs.Common.{All}
use Rattle.po_catalog.proofs.joining.joined.Given as goal

-- what is there, and what the inputs that are left add, is the whole list
abbrev pub invariant-loop-input : goal.invariant-loop-input
invariant-loop-input l = record {
  whole : input_entries l.joined.items ++ joined_from l.input l.headed (drop l.input l.catalogues)
      ≡ joined l.catalogues;
  valid : All IsCatalogueEntry (entries_of (input_entries l.joined.items));
}
