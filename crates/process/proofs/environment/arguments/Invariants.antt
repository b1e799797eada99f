use Rattle.process.proofs.Prelude.{AreValues, List, codes, length, map, string_bytes, ℕ, ◌+◌, ◌-◌, ◌^◌, ◌∷◌, ◌≡◌}
use Rattle.process.proofs.environment.arguments.Given as goal

abbrev pub invariant-loop-arguments : goal.invariant-loop-arguments
invariant-loop-arguments g l =
    (rest : List (List ℕ)) × (map string_bytes l.arguments.items ≡ codes "pokit" ∷ rest)
    × (length l.arguments.items ≡ 1 + length rest) × AreValues (g.S.SystemCalls.argument l.system) 1 rest

abbrev pub decreases-loop-arguments : goal.decreases-loop-arguments
decreases-loop-arguments g l = 2 ^ 63 - length l.arguments.items
