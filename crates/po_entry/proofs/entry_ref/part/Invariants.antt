use Rattle.po_entry.proofs.Prelude.{[], head_at, slice_index_or, texts_in, ℕ, ◌+◌, ◌≡◌}
use Rattle.po_entry.proofs.entry_ref.part.Given as goal

abbrev pub invariant-loop : goal.invariant-loop
invariant-loop l =
    (k : ℕ) → slice_index_or (texts_in (head_at l.bytes l.row)) (l.counter + k) []
    ≡ slice_index_or (texts_in l.rest) k []
