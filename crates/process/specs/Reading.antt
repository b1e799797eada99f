-- What reading a file comes to, by what opening it may come to: None where it can't be opened, and else
-- the bytes that it holds, where they are known.
use Rattle.std.specs.Prelude.{◌≡◌, ℕ, List, Option, Some, None, IfSome, MatchOption, take}
use Rattle.runs.specs.Prelude.{Reading, input_limit}
use Rattle.runs.specs.Inputs.{gives, refuses}
use Rattle.runs.specs.declared.inputs.InputFault.TheVariants.{CannotOpen, ReadFault}

pub data ReadsFile (opens : Option (Option (List ℕ)) → Type 0) : Reading → Type 0 where
  unopened : opens None → ReadsFile opens (refuses CannotOpen)
  unread : {all : Option (List ℕ)} → opens (Some all) → ReadsFile opens (refuses ReadFault)
  read : {all : Option (List ℕ)} {bytes : List ℕ} → opens (Some all)
      → IfSome all (λ all. bytes ≡ take input_limit all) → ReadsFile opens (gives bytes)

-- standard input is open already
abbrev pub ReadsInput : (Option (List ℕ) → Type 0) → Reading → Type 0
ReadsInput input reading = ReadsFile (λ opened. MatchOption opened ⊥ input) reading
