use Rattle.po_catalog.proofs.Prelude.{take, ◌≡◌}
use Rattle.po_catalog.proofs.stores.store_of.Given as goal

abbrev pub invariant-loop-entry : goal.invariant-loop-entry
invariant-loop-entry l = l.store ≡ take l.entry-index l.entries
