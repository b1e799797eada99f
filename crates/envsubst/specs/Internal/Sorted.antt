-- Internal: variables and names that are sorted, and so found by binary search.
use Rattle.std.specs.Prelude.{ℕ, List, Option}
use Rattle.std.specs.Borrow.{Bor}
use Rattle.std.specs.Cmp.Lexicographic.{slice_cmp}
use Rattle.std.specs.List.Sorted.{IsSortedBy}
use Rattle.std.specs.Ordering.{is_lt, nat_cmp}
use Rattle.std.specs.declared.cmp.Ordering.{Ordering}
use Rattle.envsubst.specs.Replacements.{Values, values_of}

-- how two names compare, by unsigned bytes
abbrev pub name_cmp : List ℕ → List ℕ → Ordering
name_cmp a b = slice_cmp nat_cmp a b

-- no variable's name is below that of the one before it
abbrev pub AreVariablesSorted : List (Bor (List ℕ) × Bor (List ℕ)) → Type 0
AreVariablesSorted vars = IsSortedBy (λ a b. is_lt (name_cmp a.0.now b.0.now)) vars

-- no name is below the one before it
abbrev pub AreNamesSorted : List (Bor (List ℕ)) → Type 0
AreNamesSorted names = IsSortedBy (λ a b. is_lt (name_cmp a.now b.now)) names

-- the variables, and the names to be replaced if they are given
pub record ReplacementsView : Type 0 where
  pub vars : List (List ℕ × List ℕ)
  pub only : Option (List (List ℕ))

-- what references become
abbrev pub values_of_replacements : ReplacementsView → Values
values_of_replacements replacements = values_of replacements.vars replacements.only
