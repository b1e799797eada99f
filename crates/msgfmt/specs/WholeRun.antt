-- What msgfmt does as a whole (manual, "Invoking the msgfmt Program").
use Rattle.std.specs.Prelude.{◌≡◌, ◌⊎◌, ℕ, List, Option, None, Some, Result, codes}
use Rattle.msgfmt.specs.declared.options.MsgfmtOptions.{MsgfmtOptions}
use Rattle.msgfmt.specs.Msgfmt.{AreWrong, IsMsgfmtRun, IsRefused, NoneRefused}
use Rattle.runs.specs.declared.program_fault.ProgramFault.{ProgramFault}
use Rattle.runs.specs.Prelude.{NamedFile, SystemView, RunView, Asking, Planning, RunsInputs}

-- what is planned of inputs: the run of all; or, where the next one can't be read, the refusal of these
abbrev pub IsPlanOf : MsgfmtOptions → List NamedFile → Option (List ℕ) → RunView → Type 0
IsPlanOf o inputs None run = IsMsgfmtRun inputs o run
IsPlanOf o inputs (Some unread) run = IsRefused inputs o run

-- the run of inputs, whose arguments aren't wrong
abbrev pub IsRunOf : MsgfmtOptions → List NamedFile → Option (List ℕ) → RunView → Type 0
IsRunOf o inputs unread run = (AreWrong inputs unread → ⊥) × IsPlanOf o inputs unread run

-- why inputs have no run: the arguments for them are wrong; or the next one can't be read, and none of
-- these is refused
abbrev pub HaveNoRun : MsgfmtOptions → List NamedFile → Option (List ℕ) → List ℕ → Type 0
HaveNoRun o inputs unread text =
    ((text ≡ codes "wrong number of arguments") × AreWrong inputs unread)
    ⊎ ((unread ≡ Some text) × NoneRefused inputs o)

abbrev pub msgfmt_plan : MsgfmtOptions → Planning
msgfmt_plan o = record { is_run = IsRunOf o; has_no_run = HaveNoRun o }

-- what msgfmt does, by its options, the arguments for its inputs and that for its output
abbrev pub RunsMsgfmt : Asking → MsgfmtOptions → List (List ℕ) → List ℕ → SystemView → SystemView
    → Result ℕ ProgramFault → Type 0
RunsMsgfmt source o arguments output before after result =
    RunsInputs source (msgfmt_plan o) arguments output before after result
