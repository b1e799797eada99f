-- Where a run is written: to its output file, or to standard output, and then to standard error.
use Rattle.std.specs.Prelude.{◌≡◌, ◌+◌, ◌++◌, ℕ, List, Option, Some, None, codes}
use Rattle.std.specs.Io.KnownBytes.{Appends}
use Rattle.runs.specs.Device.{AppendsPrefix}
use Rattle.runs.specs.declared.output_files.OutputFault.{OutputFault}
use Rattle.runs.specs.declared.output_files.OutputFault.TheVariants.{CannotCreate, WriteFault, OutOfMemory}
use Rattle.runs.specs.OutputFiles.{FileLog, Runs}
use Rattle.runs.specs.OutputWriting.{WritesFile}
use Rattle.runs.specs.Run.{RunView, DeliversPrefix}

-- how many links are followed at most from the argument for an output file
abbrev pub link_limit : ℕ
link_limit = 40

-- what clauses see of a writer
pub record WriterView : Type 0 where
  -- its bytes, where they are known
  pub bytes : Option (List ℕ)
  -- how many of its calls failed
  pub failures : ℕ

-- what clauses see of a system to which a run is written
pub record SystemView : Type 0 where
  pub files : FileLog
  pub out : WriterView
  pub err : WriterView

abbrev pub writer : Option (List ℕ) → ℕ → WriterView
writer bytes failures = record { bytes = bytes; failures = failures }

abbrev pub system : FileLog → WriterView → WriterView → SystemView
system files out err = record { files = files; out = out; err = err }

-- a writer took all of these bytes
pub record Takes (before after : WriterView) (bytes : List ℕ) : Type 0 where
  pub all : Appends before.bytes after.bytes bytes
  pub no_failure : after.failures ≡ before.failures

-- a writer took a prefix of these bytes, and then a call failed
pub record Fails (before after : WriterView) (bytes : List ℕ) : Type 0 where
  pub prefix : AppendsPrefix before.bytes after.bytes bytes
  pub failure : after.failures ≡ before.failures + 1

-- the output of a run is written to the file of this name, or this is why it isn't
abbrev pub OutputIs : RunView → List ℕ → SystemView → SystemView → Option OutputFault → Type 0
OutputIs run name before after fault = Runs before.files after.files fault (WritesFile run.output link_limit name)

-- what writing a run to the file of this name comes to, and why it isn't written, where it isn't
pub data MakesFile (run : RunView) (name : List ℕ) (before after : SystemView) : Option OutputFault → Type 0 where
  made : OutputIs run name before after None → Takes before.err after.err run.messages
      → MakesFile run name before after None
  unreported : OutputIs run name before after None → Fails before.err after.err run.messages
      → MakesFile run name before after (Some WriteFault)
  unmade : {why : OutputFault} → OutputIs run name before after (Some why) → after.err ≡ before.err
      → MakesFile run name before after (Some why)

-- standard output and then standard error took a prefix of what the run writes, and a call failed
pub record IsCutShort (run : RunView) (before after : SystemView) : Type 0 where
  pub prefix : DeliversPrefix before.out.bytes after.out.bytes before.err.bytes after.err.bytes run
  pub failure : after.out.failures + after.err.failures ≡ before.out.failures + before.err.failures + 1

-- what writing a run comes to, by the name of its output file, where it has one, and why it isn't
-- written, where it isn't
pub data WritesRun (run : RunView) (before after : SystemView) : Option (List ℕ) → Option OutputFault → Type 0 where
  delivered : after.files ≡ before.files → Takes before.out after.out run.output
      → Takes before.err after.err run.messages
      → WritesRun run before after None None
  cut : after.files ≡ before.files → IsCutShort run before after → WritesRun run before after None (Some WriteFault)
  to_file : {name : List ℕ} {fault : Option OutputFault} → after.out ≡ before.out
      → MakesFile run name before after fault
      → WritesRun run before after (Some name) fault

-- what is wrong where a run isn't written
abbrev pub output_fault_text : List ℕ → OutputFault → List ℕ
output_fault_text argument CannotCreate = argument ++ codes ": cannot create"
output_fault_text argument WriteFault = codes "write fault"
output_fault_text argument OutOfMemory = codes "out of memory"

-- the run isn't written, and this is what is wrong
pub record IsOutputFault (Writes : Option OutputFault → Type 0) (argument text : List ℕ) : Type 0 where
  pub why : OutputFault
  pub writes : Writes (Some why)
  pub text_is : text ≡ output_fault_text argument why
