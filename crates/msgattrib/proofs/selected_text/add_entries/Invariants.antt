use Rattle.msgattrib.proofs.Prelude.{AddsParts, TextEntry, get_or, hashes_of, length, selected, take, ℕ, ◌++◌, ◌<◌, ◌≡◌, ◌≤◌}
use Rattle.msgattrib.proofs.selected_text.add_entries.Given as goal

abbrev pub invariant-loop-index : goal.invariant-loop-index
invariant-loop-index l = record {
  rest : (i : ℕ) (other : TextEntry) → l.index ≤ i → i < length l.initial.store
      → get_or l.store i other ≡ get_or l.initial.store i other;
  longer : length l.initial.store ≤ length l.store;
  parts : AddsParts (selected l.selection (take l.index l.initial.store)) l.initial.parts l.parts;
  hashes : l.hashes.items ≡ l.initial.hashes.items ++ hashes_of l.selection (take l.index l.initial.store);
}
