-- What msgcat does as a whole (manual, "Invoking the msgcat Program").
use Rattle.std.specs.Prelude.{◌≡◌, ◌⊎◌, ℕ, All, List, Option, None, Some, Result}
use Rattle.po_entry.specs.Prelude.{Lacks}
use Rattle.msgcat.specs.Inputs as merge
use Rattle.msgcat.specs.declared.input.MergeOptions.{MergeOptions}
use Rattle.msgcat.specs.Msgcat.{AreReadAs, HasNulName, IsMsgcatRun, IsUnread, IsUnreadBeforeNul}
use Rattle.runs.specs.declared.program_fault.ProgramFault.{ProgramFault}
use Rattle.runs.specs.Prelude.{NamedFile, SystemView, RunView, Asking, Planning, RunsInputs}

-- the run of inputs: that of all; or, where the next one can't be read, the refusal of these; and where
-- the name of one has a NUL, the refusal of those before it
abbrev pub IsRunOf : MergeOptions → List NamedFile → Option (List ℕ) → RunView → Type 0
IsRunOf o inputs None run = IsMsgcatRun inputs o run × IsUnreadBeforeNul inputs run
IsRunOf o inputs (Some unread) run = IsUnread inputs run × IsUnreadBeforeNul inputs run

-- why inputs have no run: the name of one has a NUL, or the next one can't be read; and none before
-- that one is refused
abbrev pub HaveNoRun : List NamedFile → Option (List ℕ) → List ℕ → Type 0
HaveNoRun inputs unread text = HasNulName inputs text
    ⊎ ((unread ≡ Some text) × All (λ file. Lacks 0 file.name) inputs
    × ((read : List merge.Named) × AreReadAs inputs read))

abbrev pub msgcat_plan : MergeOptions → Planning
msgcat_plan o = record { is_run = IsRunOf o; has_no_run = HaveNoRun }

-- what msgcat does, by its options, the arguments for its inputs and that for its output
abbrev pub RunsMsgcat : Asking → MergeOptions → List (List ℕ) → List ℕ → SystemView → SystemView
    → Result ℕ ProgramFault → Type 0
RunsMsgcat source o arguments output before after result =
    RunsInputs source (msgcat_plan o) arguments output before after result
