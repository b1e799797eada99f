-- What a run of envsubst writes, by what its reader had ("Invoking the envsubst program" of the GNU
-- gettext manual).
use Rattle.std.specs.Prelude.{◌⊎◌, ◌≤◌, ℕ, List, length, Option, IfSome, Result, Ok, Err, ◌≡◌, ◌+◌, ◌^◌, IsErrOf}
use Rattle.std.specs.Io.KnownBytes.{Appends, Consumes}
use Rattle.runs.specs.declared.tool_fault.ToolFault.{ToolFault}
use Rattle.runs.specs.declared.tool_fault.ToolFault.TheVariants.{ReadFault, WriteFault, OutOfMemory}
use Rattle.runs.specs.Prelude.{AppendsPrefix}
use Rattle.envsubst.specs.Replacements.{Values}
use Rattle.envsubst.specs.Substituter.{substitution, Advances, Stops}

-- the writer took what the whole input becomes
abbrev pub Substitutes : Values → Option (List ℕ) → Option (List ℕ) → Option (List ℕ) → Type 0
Substitutes values input old new = IfSome input (λ text. Appends old new (substitution values text))

-- the writer took a prefix of what the whole input becomes
abbrev pub StopsAtEnd : Values → Option (List ℕ) → Option (List ℕ) → Option (List ℕ) → Type 0
StopsAtEnd values input old new = IfSome input (λ text. AppendsPrefix old new (substitution values text))

-- the writer took a prefix of what these bytes of the input become, whatever comes after them
pub record StopsWithin (values : Values) (input left old new : Option (List ℕ)) : Type 0 where
  pub read : List ℕ
  pub reads : Consumes input left read
  pub stops : Stops values read old new

-- The writer took all of what these bytes of the input become, whatever comes after them, but for
-- what is held back: at most 257 bytes, `${` and the longest name.
pub record HasGoneOut (values : Values) (input left old new : Option (List ℕ)) : Type 0 where
  pub read : List ℕ
  pub held : List ℕ
  pub reads : Consumes input left read
  pub few : length held ≤ 257
  pub advances : Advances values read held old new

-- what the writer took, by what is reported
abbrev pub EndsAs : Values → Option (List ℕ) → Option (List ℕ) → Option (List ℕ) → Option (List ℕ)
    → Result (Unit {0}) ToolFault → Type 0
EndsAs values input left old new (Ok _) = Substitutes values input old new
EndsAs values input left old new (Err ReadFault) = HasGoneOut values input left old new
EndsAs values input left old new (Err WriteFault) =
    StopsWithin values input left old new ⊎ StopsAtEnd values input old new
EndsAs values input left old new (Err OutOfMemory) = StopsWithin values input left old new

-- How often a run's reader and its writer failed, by the result of the run (this project's own).

-- one failure of the reader where the run ends with a read fault, and none where it doesn't
abbrev pub read_failures : {T : Type 0} → Result T ToolFault → ℕ
read_failures (Err ReadFault) = 1
read_failures result = 0

-- one failure of the writer where the run ends with a write fault, and none where it doesn't
abbrev pub write_failures : {T : Type 0} → Result T ToolFault → ℕ
write_failures (Err WriteFault) = 1
write_failures result = 0

-- a reader that was called and failed so often before the run and after it: by its result, or it
-- was called 2^32 times and none failed, which is a read fault too
abbrev pub ReadsFail : {T : Type 0} → Result T ToolFault → (calls calls' failures failures' : ℕ) → Type 0
ReadsFail result calls calls' failures failures' =
    (failures' ≡ failures + read_failures result)
    ⊎ (IsErrOf result ReadFault × (failures' ≡ failures) × (calls' ≡ calls + 2 ^ 32))
