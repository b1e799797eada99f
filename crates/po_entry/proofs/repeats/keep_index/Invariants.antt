use Rattle.po_entry.proofs.Prelude.{get_or, length, ℕ, ◌+◌, ◌-◌, ◌≡◌}
use Rattle.po_entry.proofs.repeats.keep_index.Given as goal

-- each number has the index that it had
abbrev pub invariant-loop-seen : goal.invariant-loop-seen
invariant-loop-seen l = (q : ℕ) → get_or l.seen.items q 0 ≡ get_or l.fn.seen.items q 0

abbrev pub decreases-loop-seen : goal.decreases-loop-seen
decreases-loop-seen l = l.number + 1 - length l.seen.items
