-- What a run of envsubst comes to, by its arguments ("Invoking the envsubst program" of the GNU gettext manual).
use Rattle.std.specs.Prelude.{◌≡◌, ℕ, List, Option, option_map, Result, Ok, Err}
use Rattle.std.specs.Io.KnownBytes.{Appends}
use Rattle.runs.specs.declared.tool_fault.ToolFault.{ToolFault}
use Rattle.runs.specs.declared.tool_fault.ToolFault.TheVariants.{ReadFault, WriteFault, OutOfMemory}
use Rattle.runs.specs.Prelude.{AppendsPrefix}
use Rattle.envsubst.specs.WholeInput.{EndsAs}
use Rattle.envsubst.specs.Reference.{names_in, name_lines}
use Rattle.envsubst.specs.Replacements.{values_of}
use Rattle.envsubst.specs.Variable.{variables_of}
use Rattle.envsubst.specs.Arguments.{EnvsubstUsage, names, replaced}

-- the writer took the names in a SHELL-FORMAT, one a line, or after a fault a prefix of them
abbrev pub WritesNames : List ℕ → Option (List ℕ) → Option (List ℕ) → Result (Unit {0}) ToolFault → Type 0
WritesNames format old new (Ok _) = Appends old new (name_lines format)
WritesNames format old new (Err ReadFault) = ⊥
WritesNames format old new (Err WriteFault) = AppendsPrefix old new (name_lines format)
WritesNames format old new (Err OutOfMemory) = new ≡ old

-- what the reader has left and the writer took, where the environment has these entries
pub data RunsEnvsubst (entries : List (List ℕ) → Type 0) (input left old new : Option (List ℕ))
    : EnvsubstUsage → Result (Unit {0}) ToolFault → Type 0 where
  -- `-v` SHELL-FORMAT: nothing is read
  named : {format : List ℕ} {result : Result (Unit {0}) ToolFault}
      → left ≡ input → WritesNames format old new result → RunsEnvsubst entries input left old new (names format) result
  -- [SHELL-FORMAT]: only the variables that it refers to are replaced
  substituted : {format : Option (List ℕ)} {result : Result (Unit {0}) ToolFault} (environment : List (List ℕ))
      → entries environment
      → EndsAs (values_of (variables_of environment) (option_map names_in format)) input left old new result
      → RunsEnvsubst entries input left old new (replaced format) result
  -- the environment takes more memory than there is
  unread : {format : Option (List ℕ)} → left ≡ input → new ≡ old
      → RunsEnvsubst entries input left old new (replaced format) (Err OutOfMemory)
