-- The arguments of envsubst after its options ("Invoking the envsubst program" of the GNU gettext
-- manual).
use Rattle.std.specs.Prelude.{◌≡◌, refl, ℕ, Bool, true, false, List, [], ◌∷◌, Option, Some, None, codes, Result}
use Rattle.std.specs.Option.{option_copied}
use Rattle.envsubst.specs.declared.arguments.EnvsubstArguments.{EnvsubstArguments}
use Rattle.envsubst.specs.declared.arguments.EnvsubstArguments.TheVariants.{Names, Replaced}
use Rattle.runs.specs.declared.program_fault.ProgramFault.{ProgramFault}
use Rattle.runs.specs.Prelude.{IsTaken}

-- what envsubst is asked for: the names in a SHELL-FORMAT, or the input with the variables
-- replaced, all or those that a SHELL-FORMAT refers to
pub data EnvsubstUsage : Type 0 where
  names : List ℕ → EnvsubstUsage
  replaced : Option (List ℕ) → EnvsubstUsage

-- [SHELL-FORMAT], or `-v` SHELL-FORMAT
abbrev pub envsubst_usage : Bool → List (List ℕ) → Option EnvsubstUsage
envsubst_usage true (format ∷ []) = Some (names format)
envsubst_usage false [] = Some (replaced None)
envsubst_usage false (format ∷ []) = Some (replaced (Some format))
envsubst_usage variables arguments = None

-- by the manual's form `envsubst [OPTION] [SHELL-FORMAT]`; `-v` wants a SHELL-FORMAT
pub no_format : envsubst_usage false [] ≡ Some (replaced None)
no_format = refl

pub one_format : envsubst_usage false (codes "$HOME" ∷ []) ≡ Some (replaced (Some (codes "$HOME")))
one_format = refl

pub variables_of_format : envsubst_usage true (codes "$HOME" ∷ []) ≡ Some (names (codes "$HOME"))
variables_of_format = refl

pub variables_of_nothing : envsubst_usage true [] ≡ None
variables_of_nothing = refl

pub two_formats : (variables : Bool) (a b : List ℕ) → envsubst_usage variables (a ∷ b ∷ []) ≡ None
two_formats true a b = refl
two_formats false a b = refl

-- What contracts see of the arguments of envsubst.

abbrev pub envsubst_arguments : EnvsubstArguments → EnvsubstUsage
envsubst_arguments (Names format) = names format.now
envsubst_arguments (Replaced format) = replaced (option_copied format)

-- What the arguments of a command line mean for envsubst.

-- envsubst's arguments, with its option `-v`
pub record AreEnvsubstArguments (flag : List ℕ → Bool → Type 0) (texts : List ℕ → List (List ℕ) → Type 0)
    (result : Result EnvsubstArguments ProgramFault) : Type 0 where
  pub variables : Bool
  pub arguments : List (List ℕ)
  pub variables_is : flag (codes "variables") variables
  pub arguments_are : texts (codes "SHELL-FORMAT") arguments
  pub taken : IsTaken envsubst_arguments (envsubst_usage variables arguments) result

-- the names, as the manual has them
pub envsubst_named : {flag : List ℕ → Bool → Type 0} {texts : List ℕ → List (List ℕ) → Type 0}
    {result : Result EnvsubstArguments ProgramFault} → (given : AreEnvsubstArguments flag texts result)
    → flag (codes "variables") given.variables × texts (codes "SHELL-FORMAT") given.arguments
envsubst_named given = (given.variables_is, given.arguments_are)
