-- What a process answers of its arguments and its environment, and what the program makes of it.
use Rattle.std.specs.Prelude.{◌≡◌, ◌==◌, ◌⊎◌, ◌+◌, ◌≤◌, ℕ, suc, List, [], ◌∷◌, Option, Some, None, Result, Ok, Err, codes, length, take}
use Rattle.std.specs.List.{slice_split}
use Rattle.std.specs.Str.{IsUtf8}
use Rattle.std.specs.declared.env.FillError.{FillError}
use Rattle.std.specs.declared.env.FillError.TheVariants.{NotPresent, TooLong}

-- A value is copied to the beginning of a room, or isn't there, where it may be so, or it is too long.
abbrev pub Fills : (Option (List ℕ) → Type 0) → List ℕ → Result ℕ FillError → Type 0
Fills may_be room (Ok n) = (n ≤ length room) × may_be (Some (take n room))
Fills may_be room (Err NotPresent) = may_be None
Fills may_be room (Err TooLong) = Unit {0}

-- these texts are the values from an index on, each in its place
abbrev pub AreValues : (ℕ → Option (List ℕ) → Type 0) → ℕ → List (List ℕ) → Type 0
AreValues may_be first [] = Unit {0}
AreValues may_be first (text ∷ texts) = may_be first (Some text) × AreValues may_be (suc first) texts

-- these texts are all values from an index on: after the last there is none
pub record AreAllValues (may_be : ℕ → Option (List ℕ) → Type 0) (first : ℕ) (texts : List (List ℕ)) : Type 0 where
  pub values : AreValues may_be first texts
  pub end : may_be (first + length texts) None

-- the name of the program, and all arguments, of which the first has the index 1
pub record AreArguments (argument : ℕ → Option (List ℕ) → Type 0) (words : List (List ℕ)) : Type 0 where
  pub rest : List (List ℕ)
  pub are : words ≡ codes "pokit" ∷ rest
  pub all : AreAllValues argument 1 rest

-- an argument isn't text
pub record HasNoText (argument : ℕ → Option (List ℕ) → Type 0) : Type 0 where
  pub index : ℕ
  pub bytes : List ℕ
  pub is : argument index (Some bytes)
  pub no_text : IsUtf8 bytes → ⊥

-- All entries of an environment: one by one, or those of the text that has a NUL after each. What stands
-- behind the last NUL, which is nothing, is the last of them then.
abbrev pub AreEntries : (ℕ → Option (List ℕ) → Type 0) → (List ℕ → Type 0) → List (List ℕ) → Type 0
AreEntries entry all texts = AreAllValues entry 0 texts
    ⊎ ((text : List ℕ) × all text × (texts ≡ slice_split (λ byte. byte == 0) text))
