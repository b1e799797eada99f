use Rattle.po_entry.proofs.Prelude.{texts_left, ◌++◌, ◌≡◌}
use Rattle.po_entry.proofs.text_list.TextListIter.copy.Given as goal

abbrev pub invariant-loop-text : goal.invariant-loop-text
invariant-loop-text l = l.copy ++ texts_left l.text-iterator ≡ texts_left l.fn.self
