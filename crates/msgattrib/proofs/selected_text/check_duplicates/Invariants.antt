use Rattle.msgattrib.proofs.Prelude.{selected, take, ◌≡◌}
use Rattle.msgattrib.proofs.selected_text.check_duplicates.Given as goal

-- those of the entries so far that are selected
abbrev pub invariant-loop-index : goal.invariant-loop-index
invariant-loop-index l = l.entries ≡ selected l.selection (take l.index l.store)
