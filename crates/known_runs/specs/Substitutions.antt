-- What `envsubst [SHELL-FORMAT]` comes to (manual, "Invoking the envsubst program").
use Rattle.std.specs.Prelude.{◌≡◌, ◌⊎◌, ℕ, List, [], ◌++◌, Option, None, option_map, Result, Ok, Err, codes}
use Rattle.envsubst.specs.Prelude.{names_in, Values, substitution, values_of, variables_of}
use Rattle.runs.specs.Prelude.{program_text}
use Rattle.runs.specs.declared.program_fault.ProgramFault.{ProgramFault}
use Rattle.known_runs.specs.Ends.{End, end}

-- what references become: the variables of the environment's entries, all or those that the
-- SHELL-FORMAT refers to
abbrev pub values_by : Option (List ℕ) → List (List ℕ) → Values
values_by format entries = values_of (variables_of entries) (option_map names_in format)

-- what is wrong where standard input isn't read to its end
abbrev pub IsInputFault : List ℕ → Type 0
IsInputFault text = (text ≡ codes "out of memory") ⊎ (text ≡ codes "<stdin>: read fault")

-- what it comes to, by what references become and by the text on standard input
pub data EndsSubstituted (values : Values) (text : List ℕ) : End → Type 0 where
  -- the text with its references replaced is written, and nothing is told
  substituted : EndsSubstituted values text (end (Ok 0) None (substitution values text) [])
  -- there is too little memory, or a text of 2 ^ 32 reads: a beginning of that is written
  cut : {fault : ProgramFault} {written : List ℕ} (rest : List ℕ) → IsInputFault (program_text fault)
      → substitution values text ≡ written ++ rest → EndsSubstituted values text (end (Err fault) None written [])

-- a status, or a fault of a run that reads standard input alone
abbrev pub IsStatusOrInputFault : Result ℕ ProgramFault → Result ℕ ProgramFault → Type 0
IsStatusOrInputFault (Ok status) result = result ≡ Ok status
IsStatusOrInputFault (Err fault) (Ok status) = ⊥
IsStatusOrInputFault (Err fault) (Err told) = IsInputFault (program_text told)
