use Rattle.msgcat.proofs.Prelude.{HoldInputs, List, Named, [], all_entries, entries_at, get_or, groups, length, messages, ℕ, ◌-◌, ◌<◌, ◌≡◌}
use Rattle.msgcat.proofs.MessageLinks.{AreLeft, any_live}
use Rattle.msgcat.proofs.merge_inputs.MergeInputs.is_obsolete.Given as goal

-- an entry of the message is live exactly if one of those that are left is
abbrev pub invariant-loop-index : goal.invariant-loop-index
invariant-loop-index l =
    (read : List Named) → HoldInputs read l.self → l.number < length (messages read)
    → (left : List ℕ) × AreLeft read l.self l.index left
    × (any_live (get_or (groups (all_entries read)) l.number []) ≡ any_live (entries_at (all_entries read) left))

abbrev pub decreases-loop-index : goal.decreases-loop-index
decreases-loop-index l = length l.self.links.next.items - l.index
