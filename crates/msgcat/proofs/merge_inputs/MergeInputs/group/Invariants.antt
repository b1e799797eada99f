use Rattle.msgcat.proofs.Prelude.{HoldInputs, List, Named, [], all_entries, entries_at, get_or, groups, length, messages, named_entries, ℕ, ◌++◌, ◌-◌, ◌<◌, ◌≡◌}
use Rattle.msgcat.proofs.MessageLinks.{AreLeft}
use Rattle.msgcat.proofs.merge_inputs.MergeInputs.group.Given as goal

-- the entries so far are listed, and the others are linked
abbrev pub invariant-loop-index : goal.invariant-loop-index
invariant-loop-index l =
    (read : List Named) → HoldInputs read l.self → l.number < length (messages read)
    → (left : List ℕ) × AreLeft read l.self l.index left
    × (named_entries l.group.items ++ entries_at (all_entries read) left
    ≡ get_or (groups (all_entries read)) l.number [])

abbrev pub decreases-loop-index : goal.decreases-loop-index
decreases-loop-index l = length l.self.links.next.items - l.index
