-- What a command comes to over a known system.
use Rattle.std.specs.Prelude.{◌≡◌, ℕ, true, false, List, [], Option, Some, Result, Ok, Err, option_map}
use Rattle.runs.specs.Prelude.{program_text, RunView}
use Rattle.runs.specs.declared.program_fault.ProgramFault.{ProgramFault}
use Rattle.known_system.specs.Prelude.{IsFileFault}
use Rattle.known_runs.specs.declared.in_memory.Ended.{Ended}

-- its status or why it has none, the bytes of its output file, where one is there, and what it wrote on
-- standard output and standard error
pub record End : Type 0 where
  pub result : Result ℕ ProgramFault
  pub file : Option (List ℕ)
  pub out : List ℕ
  pub err : List ℕ

abbrev pub end : Result ℕ ProgramFault → Option (List ℕ) → (out err : List ℕ) → End
end result file out err = record { result = result; file = file; out = out; err = err }

abbrev pub end_of : Ended → End
end_of ended =
    end ended.result (option_map (λ bytes. bytes.items) ended.file) ended.out.said.bytes ended.err.said.bytes

-- What a command comes to that writes the file at this path, which held these bytes or wasn't there.
-- `IsRun` says which run it has.
pub data EndsInFile (IsRun : RunView → Type 0) (path : List ℕ) (old : Option (List ℕ)) : End → Type 0 where
  -- the file is the whole output, and the messages are told
  filed : {run : RunView} → IsRun run → run.create ≡ true
      → EndsInFile IsRun path old (end (Ok run.status) (Some run.output) [] run.messages)
  -- the run makes no file: its output is on standard output, and the file is as it was
  printed : {run : RunView} → IsRun run → run.create ≡ false
      → EndsInFile IsRun path old (end (Ok run.status) old run.output run.messages)
  -- memory or the folder is too small: the file is as it was, and nothing is told
  failed : {fault : ProgramFault} → IsFileFault path (program_text fault)
      → EndsInFile IsRun path old (end (Err fault) old [] [])

-- A command has one end.

-- it ended with a status
abbrev pub HasStatus : End → Type 0
HasStatus is = (status : ℕ) × (is.result ≡ Ok status)

-- what it writes, tells and returns is the same wherever it ends with a status
abbrev pub OneEnd : (End → Type 0) → Type 0
OneEnd Ends = (first second : End) → Ends first → Ends second → HasStatus first → HasStatus second → first ≡ second
