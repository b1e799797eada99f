use Rattle.po_catalog.proofs.Prelude.{entries_of, input_entries, take, ◌≡◌}
use Rattle.po_catalog.proofs.joining.joined_store.Given as goal

abbrev pub invariant-loop-member : goal.invariant-loop-member
invariant-loop-member l = l.store ≡ entries_of (input_entries (take l.member-index l.entries))
