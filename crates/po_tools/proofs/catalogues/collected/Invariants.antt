use Rattle.po_tools.proofs.Prelude.{HoldCatalogues, take}
use Rattle.po_tools.proofs.catalogues.collected.Given as goal

abbrev pub invariant-loop-catalogue : goal.invariant-loop-catalogue
invariant-loop-catalogue l = HoldCatalogues l.use_fuzzy (take l.catalogue-index l.catalogues) l.inputs.items
