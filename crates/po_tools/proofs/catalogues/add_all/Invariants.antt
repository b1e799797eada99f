use Rattle.po_tools.proofs.Prelude.{take, ◌++◌, ◌≡◌}
use Rattle.po_tools.proofs.catalogues.add_all.Given as goal

abbrev pub invariant-loop-entry : goal.invariant-loop-entry
invariant-loop-entry l = l.store ≡ l.initial.store ++ take l.entry-index l.entries
