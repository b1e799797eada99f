-- The variables of an environment (manual of the C library, "Environment Variables": each entry is
-- `NAME=VALUE`).
use Rattle.std.specs.Prelude.{◌≡◌, refl, ℕ, ◌+◌, ◌==◌, List, [], ◌∷◌, Option, Some, option_map, position, take, drop, codes}
use Rattle.std.specs.List.{flat_map}
use Rattle.std.specs.Option.{option_to_list}

-- the name and the value of an entry around its first `=`, where it has one
abbrev pub variable_of : List ℕ → Option (List ℕ × List ℕ)
variable_of entry = option_map (λ at. (take at entry, drop (at + 1) entry)) (position (λ b. b == 61) entry)

-- the variables of the entries, in their order; an entry without `=` is none
abbrev pub variables_of : List (List ℕ) → List (List ℕ × List ℕ)
variables_of entries = flat_map (λ entry. option_to_list (variable_of entry)) entries

-- a name goes up to the first `=`, and an entry without one is no variable
pub one_variable : variable_of (codes "HOME=/a=b") ≡ Some (codes "HOME", codes "/a=b")
one_variable = refl

pub empty_value : variable_of (codes "HOME=") ≡ Some (codes "HOME", [])
empty_value = refl

pub two_variables : variables_of (codes "HOME" ∷ codes "A=1" ∷ codes "B=2" ∷ [])
    ≡ (codes "A", codes "1") ∷ (codes "B", codes "2") ∷ []
two_variables = refl
