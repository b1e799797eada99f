use Rattle.process.proofs.Prelude.{AreValues, length, map, ◌-◌, ◌^◌}
use Rattle.process.proofs.environment.entries.Given as goal

abbrev pub invariant-loop-text : goal.invariant-loop-text
invariant-loop-text g l = AreValues (g.S.SystemCalls.entry l.system) 0 (map (λ entry. entry.items) l.entries.items)

abbrev pub decreases-loop-text : goal.decreases-loop-text
decreases-loop-text g l = 2 ^ 63 - length l.entries.items
