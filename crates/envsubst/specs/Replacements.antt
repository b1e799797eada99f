-- What the references to a name become, by variables and a SHELL-FORMAT ("Invoking the envsubst
-- program" of the GNU gettext manual).
use Rattle.std.specs.Prelude.{ℕ, Bool, true, if◌then◌else◌, List, [], ◌∷◌, map, Option, Some, None}
use Rattle.std.specs.Borrow.{Bor}
use Rattle.std.specs.List.{list_any}
use Rattle.std.specs.Option.{option_map}
use Rattle.std.specs.Str.{bytes_eq}

-- what the references to a name become; at `None` they are copied
abbrev pub Values : Type 0
Values = List ℕ → Option (List ℕ)

-- the value of the first variable of that name, and nothing where it is unset
unfoldable pub value_of : List (List ℕ × List ℕ) → List ℕ → List ℕ
value_of [] name = []
value_of (v ∷ vars) name = if bytes_eq v.0 name then v.1 else value_of vars name

-- with a SHELL-FORMAT only the names in it are replaced
unfoldable pub is_replaced : Option (List (List ℕ)) → List ℕ → Bool
is_replaced None name = true
is_replaced (Some names) name = list_any (λ n. bytes_eq n name) names

-- what references become under these variables, and the names of a SHELL-FORMAT if there is one
unfoldable pub values_of : List (List ℕ × List ℕ) → Option (List (List ℕ)) → Values
values_of vars only name = if is_replaced only name then Some (value_of vars name) else None

-- the pairs of name and value that slices of slices hold
abbrev pub pairs_in : List (Bor (List ℕ) × Bor (List ℕ)) → List (List ℕ × List ℕ)
pairs_in vars = map (λ v. (v.0.now, v.1.now)) vars

-- the names that a slice of slices holds, if it is given
abbrev pub names_given : Option (Bor (List (Bor (List ℕ)))) → Option (List (List ℕ))
names_given only = option_map (λ names. map (λ n. n.now) names.now) only

-- what references become under variables and names that slices hold
abbrev pub values_of_slices : List (Bor (List ℕ) × Bor (List ℕ)) → Option (Bor (List (Bor (List ℕ)))) → Values
values_of_slices vars only = values_of (pairs_in vars) (names_given only)
