-- What the program over a system comes to.
use Rattle.std.specs.Prelude.{◌≡◌, ℕ, List, Option, None, Result, codes, true, false}
use Rattle.po_tools.specs.Prelude.{Answers, Reached}
use Rattle.runs.specs.Prelude.{WriterView, program_text}
use Rattle.runs.specs.declared.program_fault.ProgramFault.{ProgramFault}
use Rattle.runs.specs.declared.run.Ending.{Ending}
use Rattle.runs.specs.declared.run.Ending.TheVariants.{Refused}
use Rattle.process.specs.Endings.{Reports}
use Rattle.process.specs.OutputCalls.{ReplacesClosed}
use Rattle.process.specs.Program.{RunsProgram}
use Rattle.process.specs.SystemCalls.{CallLog, Does}

-- A standard stream is closed and nothing can take its place, which is reported; or a folder has taken the
-- place of each that is closed, and the program runs, with what the system answers.
pub data Starts {E : Type 0} (first : CallLog) (gives : List ℕ → Result ℕ E → Type 0)
    (argument : ℕ → Option (List ℕ) → Type 0) (answers : Answers) : Ending → Type 0 where
  is_closed : {tried : CallLog} (fault : ProgramFault) {errors told : WriterView}
      → Does first tried (ReplacesClosed false) → program_text fault ≡ codes "/: cannot open"
      → Reports None fault errors told → Starts first gives argument answers Refused
  runs : {held : CallLog} {before after : Reached} {errors told : WriterView} {ending : Ending}
      → Does first held (ReplacesClosed true)
      → RunsProgram gives argument answers ⊥ before after errors told ending
      → Starts first gives argument answers ending
