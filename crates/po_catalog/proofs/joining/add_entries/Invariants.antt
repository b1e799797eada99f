use Rattle.po_catalog.proofs.Prelude.{in_input, input_entries, kept_entries, map, take, ◌++◌, ◌≡◌}
use Rattle.po_catalog.proofs.joining.add_entries.Given as goal

-- what is there is what was there, and what is kept of the entries so far
abbrev pub invariant-loop-entry : goal.invariant-loop-entry
invariant-loop-entry l =
    input_entries l.joined.items ≡ input_entries l.initial.joined.items
    ++ map (in_input l.input) (kept_entries l.headed (take l.entry-index l.entries))
