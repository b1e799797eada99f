-- What the options and arguments of a command line mean for every tool.
use Rattle.std.specs.Prelude.{◌≡◌, ℕ, List, Option, Some, None, Result, Ok, Err}
use Rattle.std.specs.Option.{unwrap_or}
use Rattle.runs.specs.declared.program_fault.ProgramFault.{ProgramFault}
use Rattle.runs.specs.declared.program_fault.ProgramFault.TheVariants.{WrongArguments}

-- the text of this name, or else another
pub record IsTextOr (text : List ℕ → Option (List ℕ) → Type 0) (name other value : List ℕ) : Type 0 where
  pub given : Option (List ℕ)
  pub given_is : text name given
  pub value_is : value ≡ unwrap_or given other

-- arguments are taken as this usage has them, or fit none
abbrev pub IsTaken : {T U : Type 0} → (T → U) → Option U → Result T ProgramFault → Type 0
IsTaken view usage (Ok taken) = usage ≡ Some (view taken)
IsTaken view usage (Err fault) = (usage ≡ None) × (fault ≡ WrongArguments)
