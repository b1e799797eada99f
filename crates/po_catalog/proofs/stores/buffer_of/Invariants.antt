use Rattle.po_catalog.proofs.Prelude.{take, texts, ◌≡◌}
use Rattle.po_catalog.proofs.stores.buffer_of.Given as goal

abbrev pub invariant-loop-text : goal.invariant-loop-text
invariant-loop-text l = l.copy ≡ texts (take l.text-index l.text-items)
