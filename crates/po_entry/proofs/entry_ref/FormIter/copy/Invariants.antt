use Rattle.po_entry.proofs.Prelude.{forms_left, texts, ◌++◌, ◌≡◌}
use Rattle.po_entry.proofs.entry_ref.FormIter.copy.Given as goal

abbrev pub invariant-loop-form : goal.invariant-loop-form
invariant-loop-form l = texts l.copy.items ++ forms_left l.form-iterator ≡ forms_left l.fn.self
