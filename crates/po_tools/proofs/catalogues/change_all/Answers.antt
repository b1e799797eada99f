use Rattle.po_tools.proofs.Prelude.{All-set, IsCatalogueEntry, arith, changed}
use Rattle.std.proofs.lemmas.List.Edits.{map_over_more}
use Rattle.po_tools.proofs.catalogues.change_all.Goals as goal

pub loop-entry-preserved : goal.loop-entry-preserved
loop-entry-preserved c = record {
  changed = rw (c.change.ensures.changed, ← c.entry-item.is)
      (map_over_more (changed c.args.selection.now) c.args.entries.now c.loop-entry.entries c.loop-entry.entry-index
      c.entry-item.result
      (omega (arith, c.loop-entry.auto.entries)) c.loop-entry.invariant.changed c.entry-item.is);
  valid = All-set IsCatalogueEntry _ _ _ c.change.ensures.valid c.loop-entry.invariant.valid;
}
