use Rattle.po_catalog.proofs.Prelude.{AreParts, take}
use Rattle.po_catalog.proofs.writing.add_entries.Given as goal

abbrev pub invariant-loop-index : goal.invariant-loop-index
invariant-loop-index l = AreParts (take l.index l.store) l.parts
