-- What a run of a tool writes and reports, and its exit status: this project's own, as far as the
-- manual's chapters on the tools leave it open.
use Rattle.std.specs.Prelude.{◌≡◌, refl, ℕ, Bool, not, ◌&&◌, nat_lt, if◌then◌else◌, List, [], ◌∷◌, length, map, true, false, Option, Some, None, codes, ◌⊎◌, zero, suc}
use Rattle.std.specs.Io.KnownBytes.{Appends, Keeps}
use Rattle.std.specs.Str.{bytes_eq}
use Rattle.runs.specs.Device.{AppendsPrefix}
use Rattle.runs.specs.declared.run.Run.{Run}
use Rattle.runs.specs.declared.run.Ending.{Ending}
use Rattle.runs.specs.declared.run.Ending.TheVariants.{Ran, Helped, Refused}

-- What contracts see of a run: the bytes of its output, whether a file is made of them, what it
-- writes on standard error, and its exit status.
pub record RunView : Type 0 where
  pub output : List ℕ
  pub create : Bool
  pub messages : List ℕ
  pub status : ℕ

abbrev pub run_view : Run → RunView
run_view run =
    record { output = run.output.items; create = run.create; messages = run.messages.items; status = run.status }

-- no output is written and no file is made, and these messages on standard error say why; the
-- status is 1
abbrev pub refusal : List ℕ → RunView
refusal messages = record { output = []; create = false; messages = messages; status = 1 }

-- this output is written, to a file where it has a byte; the status is 0
abbrev pub output_run : List ℕ → RunView
output_run output = record { output = output; create = nat_lt 0 (length output); messages = []; status = 0 }

-- the status of an output that is written is 0
pub output_status : (output : List ℕ) → (output_run output).status ≡ 0
output_status output = refl

-- From old to new, what went out is a prefix of the output and no message, or all of the output and
-- a prefix of the messages.
abbrev pub DeliversPrefix : Option (List ℕ) → Option (List ℕ) → Option (List ℕ) → Option (List ℕ) → RunView → Type 0
DeliversPrefix out out' err err' run =
    (AppendsPrefix out out' run.output × Keeps err err')
    ⊎ (Appends out out' run.output × AppendsPrefix err err' run.messages)

-- `-` stands for standard input and for standard output
abbrev pub is_standard : List ℕ → Bool
is_standard argument = bytes_eq argument (codes "-")

-- the name of an input in fault lines
abbrev pub shown_name : List ℕ → List ℕ
shown_name argument = if is_standard argument then codes "<stdin>" else argument

-- the file that is made for the output
abbrev pub output_file : RunView → List ℕ → Option (List ℕ)
output_file run argument = if run.create && not (is_standard argument) then Some argument else None

pub nothing_is_made : ((refusal (codes "a")).status ≡ 1)
    × (map (output_file (refusal [])) (codes "-" ∷ codes "a" ∷ []) ≡ None ∷ None ∷ [])
    × (map shown_name (codes "-" ∷ codes "a" ∷ []) ≡ codes "<stdin>" ∷ codes "a" ∷ [])
nothing_is_made = (refl, refl, refl)

pub outputs_are_made : (map (λ output. (output_run output).create) ([] ∷ codes "a" ∷ []) ≡ false ∷ true ∷ [])
    × ((output_run (codes "a")).status ≡ 0)
outputs_are_made = (refl, refl)

-- The exit status of the program: 0 where help was given or the tool's run has status 0, else 1.

abbrev pub exit_status : Ending → ℕ
exit_status (Ran zero) = 0
exit_status (Ran (suc status)) = 1
exit_status (Helped true) = 0
exit_status (Helped false) = 1
exit_status Refused = 1
