-- What a tool does as a whole: it asks for its inputs, plans a run of what was read, and writes the run.
use Rattle.std.specs.Prelude.{◌≡◌, ℕ, List, [], Option, None, Result, Ok, Err, false}
use Rattle.runs.specs.declared.program_fault.ProgramFault.{ProgramFault}
use Rattle.runs.specs.declared.program_fault.ProgramFault.TheVariants.{OutOfMemory}
use Rattle.runs.specs.Inputs.{Asked, AsksAll, AsksFirst, AreInputs, IsInputFault, Reading, ReadsAs, gives, asked_arguments, NamedFile}
use Rattle.runs.specs.OutputSystem.{SystemView, WritesRun, IsOutputFault}
use Rattle.runs.specs.ProgramFault.{program_text}
use Rattle.runs.specs.Run.{RunView, is_standard, output_file, shown_name}

-- a run is written, by the argument for its output, with its status; or it isn't, for this fault
pub data Writes (run : RunView) (output : List ℕ) (before after : SystemView) : Result ℕ ProgramFault → Type 0 where
  written : WritesRun run before after (output_file run output) None → Writes run output before after (Ok run.status)
  unwritten : {fault : ProgramFault}
      → IsOutputFault (WritesRun run before after (output_file run output)) output (program_text fault)
      → Writes run output before after (Err fault)

-- what a tool asks of a source of inputs: what each file and standard input may be read as; what was
-- asked for before the run and after it; and whether the input that was asked for last can't be read
pub record Asking : Type 1 where
  pub file : List ℕ → Reading → Type 0
  pub standard : Reading → Type 0
  pub before : Option (List Asked)
  pub after : Option (List Asked)
  pub refused : Type 0

abbrev pub asking : (List ℕ → Reading → Type 0) → (Reading → Type 0) → (before after : Option (List Asked)) → Type 0
    → Asking
asking file standard before after refused =
    record { file = file; standard = standard; before = before; after = after; refused = refused }

-- what a tool plans of the inputs that were read, by what is wrong with the next one: which run they
-- have; or which have none, and why
pub record Planning : Type 1 where
  pub is_run : List NamedFile → Option (List ℕ) → RunView → Type 0
  pub has_no_run : List NamedFile → Option (List ℕ) → List ℕ → Type 0

-- the inputs that arguments name are read, up to one that can't be and what is wrong with it; each is
-- asked for in its turn, that one last
pub record ReadsInputs (source : Asking) (arguments : List (List ℕ)) (inputs : List NamedFile)
    (unread : Option (List ℕ)) : Type 0 where
  pub are : AreInputs source.file source.standard false arguments inputs unread
  pub asks : AsksAll source.before source.after (asked_arguments arguments inputs unread)

-- what a tool of several inputs does, by the arguments for these and for its output
pub data RunsInputs (source : Asking) (plan : Planning) (arguments : List (List ℕ)) (output : List ℕ)
    (before after : SystemView) : Result ℕ ProgramFault → Type 0 where
  -- the run of what was read is written, or isn't
  runs : {inputs : List NamedFile} {unread : Option (List ℕ)} {run : RunView} {result : Result ℕ ProgramFault}
      → ReadsInputs source arguments inputs unread → plan.is_run inputs unread run
      → Writes run output before after result → RunsInputs source plan arguments output before after result
  -- what was read has no run, and nothing is written
  has_none : {inputs : List NamedFile} {unread : Option (List ℕ)} {fault : ProgramFault}
      → ReadsInputs source arguments inputs unread → plan.has_no_run inputs unread (program_text fault)
      → after ≡ before → RunsInputs source plan arguments output before after (Err fault)
  -- reading takes more memory than there is, no input is one that can't be read, and nothing is written
  no_memory_to_read : AsksFirst source.before source.after arguments → (source.refused → ⊥)
      → after ≡ before → RunsInputs source plan arguments output before after (Err OutOfMemory)
  -- planning what was read does, and nothing is written; where nothing was read, no input is one that
  -- can't be read
  no_memory_to_plan : {inputs : List NamedFile} {unread : Option (List ℕ)}
      → ReadsInputs source arguments inputs unread → (inputs ≡ [] → unread ≡ None)
      → after ≡ before → RunsInputs source plan arguments output before after (Err OutOfMemory)

-- What a tool of one input does, after it has asked for that, by the arguments for it and for its
-- output. `IsRun` says which run the input has.
pub data RunsInput (source : Asking) (IsRun : NamedFile → RunView → Type 0) (argument output : List ℕ)
    (before after : SystemView) : Result ℕ ProgramFault → Type 0 where
  -- the run of what was read is written, or isn't
  runs_one : {bytes : List ℕ} {run : RunView} {result : Result ℕ ProgramFault}
      → ReadsAs source.file source.standard argument (is_standard argument) false (gives bytes)
      → IsRun (record { name = shown_name argument; bytes = bytes }) run → Writes run output before after result
      → RunsInput source IsRun argument output before after result
  -- the input can't be read, and nothing is written
  unread : {fault : ProgramFault} → IsInputFault source.file source.standard argument (program_text fault)
      → after ≡ before → RunsInput source IsRun argument output before after (Err fault)
  -- reading or planning takes more memory than there is, the input isn't one that can't be read, and
  -- nothing is written
  out_of_memory : (source.refused → ⊥) → after ≡ before
      → RunsInput source IsRun argument output before after (Err OutOfMemory)

-- a system reads as one thing what it is asked for: each file, and standard input
pub record HasOneReading (file : List ℕ → Reading → Type 0) (standard : Reading → Type 0) : Type 0 where
  pub of_file : (name : List ℕ) (one other : Reading) → file name one → file name other → one ≡ other
  pub of_standard : (one other : Reading) → standard one → standard other → one ≡ other
