-- What msgattrib writes and reports (manual, "Invoking the msgattrib Program").
use Rattle.std.specs.Prelude.{◌≡◌, ◌≢◌, ◌⊎◌, ℕ, List, map, codes, refl}
use Rattle.po_syntax.specs.declared.fault.PoError.{PoError}
use Rattle.po_syntax.specs.declared.fault.PoFault.TheVariants.{Duplicate, OutOfMemory}
use Rattle.po_entry.specs.Prelude.{TextEntry, InputEntry, in_input, HasNoDuplicate, IsFirstDuplicate, IsTextFault, ReadsDistinct}
use Rattle.msgattrib.specs.declared.selection.Selection.{Selection}
use Rattle.msgattrib.specs.Selected.{selected}
use Rattle.po_writer.specs.Prelude.{written_text}
use Rattle.runs.specs.Prelude.{text_line, RunView, output_run, refusal}

-- the line that reports a fault of a file
abbrev pub error_line : List ℕ → PoError → List ℕ
error_line name error = text_line (codes "msgattrib") name error

-- the status of one that is refused is 1; that of any other is 0 (`output_status`)
pub refused_status : (name : List ℕ) (error : PoError) → (refusal (error_line name error)).status ≡ 1
refused_status name error = refl

-- the text is refused for its first fault
pub record IsRefused (name text : List ℕ) (run : RunView) : Type 0 where
  pub error : PoError
  pub fault : IsTextFault text error
  pub not_memory : error.kind ≢ OutOfMemory
  pub run_is : run ≡ refusal (error_line name error)

-- What is selected has a duplicate, as where an obsolete entry has become live. It is reported at
-- no line; what is reported names the line of the earlier entry.
pub record IsRepeating (name text : List ℕ) (s : Selection) (run : RunView) : Type 0 where
  pub entries : List TextEntry
  pub read : ReadsDistinct text entries
  pub first : InputEntry
  pub later : InputEntry
  pub duplicate : IsFirstDuplicate (map (in_input 0) (selected s entries)) first later
  pub run_is : run ≡ refusal (error_line name (record { kind = Duplicate first.entry.line; line = 0 }))

-- what is selected is written
pub record IsDone (text : List ℕ) (s : Selection) (run : RunView) : Type 0 where
  pub entries : List TextEntry
  pub read : ReadsDistinct text entries
  pub distinct : HasNoDuplicate (selected s entries)
  pub run_is : run ≡ output_run (written_text (selected s entries))

-- what a run of msgattrib on a text comes to
abbrev pub IsMsgattribRun : List ℕ → Selection → List ℕ → RunView → Type 0
IsMsgattribRun name s text run = IsRefused name text run ⊎ IsRepeating name text s run ⊎ IsDone text s run
