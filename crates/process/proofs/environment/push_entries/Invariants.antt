use Rattle.process.proofs.Prelude.{AreValues, length, map, ◌≡◌}
use Rattle.process.proofs.environment.push_entries.Given as goal

abbrev pub invariant-loop-index : goal.invariant-loop-index
invariant-loop-index g l =
    (l.index ≡ length l.entries.items)
    × AreValues (g.S.SystemCalls.entry l.system) 0 (map (λ entry. entry.items) l.entries.items)
