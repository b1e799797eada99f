use Rattle.po_catalog.proofs.Prelude.{texts, texts_left, ◌++◌, ◌≡◌}
use Rattle.po_catalog.proofs.stores.list_of.Given as goal

abbrev pub invariant-loop-text : goal.invariant-loop-text
invariant-loop-text l = texts l.copy.items ++ texts_left l.text-iterator ≡ texts_left l.fn.list
