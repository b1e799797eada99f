-- Internal to this crate: what a byte decides of those that are held, and what comes out then.
use Rattle.std.specs.Prelude.{◌≡◌, ℕ, ◌+◌, ◌<◌, ◌≤◌, Bool, true, false, List, [], ◌∷◌, ◌++◌, length, take, drop, Option, Some, None}
use Rattle.std.specs.Borrow.{Bor}
use Rattle.envsubst.specs.Replacements.{Values}
use Rattle.envsubst.specs.Substituter.{substitution}
use Rattle.envsubst.specs.declared.holding.Step.{Step}
use Rattle.envsubst.specs.declared.holding.Step.TheVariants.{Hold, Write}
use Rattle.envsubst.specs.Holding.{is_undecided}

-- what stands after the `$` of a reference that is begun: with a brace first, or without
abbrev pub after_dollar : Bool → List ℕ → List ℕ
after_dollar true bs = 123 ∷ bs
after_dollar false bs = bs

-- what is done with the bytes held and the next one, whatever comes after them: that is held too, or a
-- text comes out of them and of the byte where it is taken
abbrev pub ComesOut : Values → List ℕ → ℕ → Step → Type 0
ComesOut values held next Hold = is_undecided (held ++ next ∷ []) ≡ true
ComesOut values held next (Write text taken) = (taken ≤ 1)
    × ((rest : List ℕ)
    → substitution values (held ++ (next ∷ rest)) ≡ text.now ++ substitution values (drop taken (next ∷ rest)))

-- what a step makes of the bytes held and a piece, whatever comes after it: the piece's first byte
-- is held too, or a text comes out of them and of what is taken
abbrev pub IsStep : Values → List ℕ → List ℕ → Step → Type 0
IsStep values held piece Hold = is_undecided (held ++ take 1 piece) ≡ true
IsStep values held piece (Write text taken) = (taken ≤ length piece) × (0 < length held + taken)
    × ((rest : List ℕ)
    → substitution values ((held ++ piece) ++ rest) ≡ text.now ++ substitution values (drop taken piece ++ rest))

-- what becomes of the bytes held where nothing follows: this value, or the bytes themselves
abbrev pub Ending : Values → List ℕ → Option (Bor (List ℕ)) → Type 0
Ending values held None = substitution values held ≡ held
Ending values held (Some value) = substitution values held ≡ value.now
