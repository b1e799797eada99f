-- What each tool does as a whole, by what its command line gives.
use Rattle.std.specs.Prelude.{◌≡◌, ◌+◌, ℕ, Bool, List, Option, None, Some, Result, Ok, Err, codes, false}
use Rattle.gettext.specs.Prelude.{searching, RunsLookUp, AsksGettext, AsksNgettext, CommandView}
use Rattle.msgfmt.specs.declared.options.MsgfmtOptions.{MsgfmtOptions}
use Rattle.msgfmt.specs.Prelude.{RunsMsgfmt, AreMsgfmtOptions, default_output}
use Rattle.msgunfmt.specs.Prelude.{IsMsgunfmtRun}
use Rattle.msgcat.specs.declared.input.MergeOptions.{MergeOptions}
use Rattle.msgattrib.specs.declared.selection.Selection.{Selection}
use Rattle.runs.specs.declared.tool_fault.ToolFault.{ToolFault}
use Rattle.msgattrib.specs.Prelude.{IsMsgattribRun, IsSelection}
use Rattle.msgcat.specs.Prelude.{RunsMsgcat, AreMergeOptions}
use Rattle.runs.specs.declared.program_fault.ProgramFault.{ProgramFault}
use Rattle.runs.specs.declared.program_fault.ProgramFault.TheVariants.{WrongArguments}
use Rattle.envsubst.specs.Prelude.{RunsEnvsubst, ReadsFail, write_failures, EnvsubstUsage, envsubst_usage}
use Rattle.runs.specs.Prelude.{IsTextOr, Asked, Asks, Reading, asked_for, NamedFile, SystemView, program_text, stdin_text, RunView, is_standard, Asking, RunsInput, asking}
use Rattle.runs.specs.declared.tool.Tool.{Tool}
use Rattle.runs.specs.declared.tool.Tool.TheVariants.{Msgfmt, Msgunfmt, Msgattrib, Msgcat, Gettext, Ngettext, Envsubst}

-- what the options and arguments of a command line may be, by their names
pub record CommandLine : Type 1 where
  pub flag : List ℕ → Bool → Type 0
  pub text : List ℕ → Option (List ℕ) → Type 0
  pub texts : List ℕ → List (List ℕ) → Type 0
  pub number : List ℕ → Option ℕ → Type 0

-- what a system may answer: files by their names, standard input, variables by their names, and all
-- entries of the environment
pub record Answers : Type 1 where
  pub file : List ℕ → Reading → Type 0
  pub standard : Reading → Type 0
  pub variable : List ℕ → Option (List ℕ) → Type 0
  pub entries : List (List ℕ) → Type 0

-- what a reader of an input has left, how often it was called, and how often a call failed
pub record ReaderView : Type 0 where
  pub left : Option (List ℕ)
  pub calls : ℕ
  pub failures : ℕ

-- what a tool reaches of a system: what was asked for, the reader of envsubst's input, and what was
-- written
pub record Reached : Type 0 where
  pub asked : Option (List Asked)
  pub reader : ReaderView
  pub written : SystemView

abbrev pub line_of : (List ℕ → Bool → Type 0) → (List ℕ → Option (List ℕ) → Type 0)
    → (List ℕ → List (List ℕ) → Type 0) → (List ℕ → Option ℕ → Type 0) → CommandLine
line_of flag text texts number = record { flag = flag; text = text; texts = texts; number = number }

abbrev pub answers_of : (List ℕ → Reading → Type 0) → (Reading → Type 0) → (List ℕ → Option (List ℕ) → Type 0)
    → (List (List ℕ) → Type 0) → Answers
answers_of file standard variable entries =
    record { file = file; standard = standard; variable = variable; entries = entries }

abbrev pub reader_of : Option (List ℕ) → (calls failures : ℕ) → ReaderView
reader_of left calls failures = record { left = left; calls = calls; failures = failures }

abbrev pub reached : Option (List Asked) → ReaderView → SystemView → Reached
reached asked reader written = record { asked = asked; reader = reader; written = written }

-- what a tool asks of its inputs, where `refused` says that the one that was asked for last can't be read
abbrev pub asked_of : Answers → (before after : Reached) → (refused : Type 0) → Asking
asked_of answers before after refused = asking answers.file answers.standard before.asked after.asked refused

-- a tool of one input is run, by the arguments for its input and its output
pub record RunsOne (line : CommandLine) (answers : Answers) (refused : Type 0) (IsRun : NamedFile → RunView → Type 0)
    (before after : Reached) (result : Result ℕ ProgramFault) : Type 0 where
  pub argument : List ℕ
  pub output : List ℕ
  pub argument_is : IsTextOr line.text (codes "FILE") (codes "-") argument
  pub output_is : IsTextOr line.text (codes "output-file") (codes "-") output
  pub asks : Asks before.asked after.asked (asked_for argument (is_standard argument) false)
  pub runs : RunsInput (asked_of answers before after refused) IsRun argument output before.written after.written result
  pub unread : after.reader ≡ before.reader

-- msgfmt is run, by all its arguments and options
pub record RunsMsgfmtLine (line : CommandLine) (answers : Answers) (refused : Type 0) (before after : Reached)
    (result : Result ℕ ProgramFault) : Type 0 where
  pub arguments : List (List ℕ)
  pub output : List ℕ
  pub options : MsgfmtOptions
  pub arguments_are : line.texts (codes "FILE") arguments
  pub output_is : IsTextOr line.text (codes "output-file") default_output output
  pub options_are : AreMsgfmtOptions line.flag line.text options
  pub runs : RunsMsgfmt (asked_of answers before after refused) options arguments output
      before.written after.written result
  pub unread : after.reader ≡ before.reader

-- msgattrib is run, by its options
pub record RunsMsgattribLine (line : CommandLine) (answers : Answers) (refused : Type 0) (before after : Reached)
    (result : Result ℕ ProgramFault) : Type 0 where
  pub selection : Selection
  pub selection_is : IsSelection line.flag selection
  pub runs : RunsOne line answers refused (λ file run. IsMsgattribRun file.name selection file.bytes run)
      before after result

-- msgcat is run, by all its arguments and options
pub record RunsMsgcatLine (line : CommandLine) (answers : Answers) (refused : Type 0) (before after : Reached)
    (result : Result ℕ ProgramFault) : Type 0 where
  pub arguments : List (List ℕ)
  pub output : List ℕ
  pub options : MergeOptions
  pub arguments_are : line.texts (codes "FILE") arguments
  pub output_is : IsTextOr line.text (codes "output-file") (codes "-") output
  pub options_are : AreMergeOptions line.flag line.number options
  pub runs : RunsMsgcat (asked_of answers before after refused) options arguments output
      before.written after.written result
  pub unread : after.reader ≡ before.reader

-- the arguments fit no usage of the tool, and nothing is done
pub record FitsNone {U : Type 0} (usage : Option U) (before after : Reached) (result : Result ℕ ProgramFault)
    : Type 0 where
  pub none : usage ≡ None
  pub nothing : after ≡ before
  pub fault : result ≡ Err WrongArguments

-- gettext or ngettext is run, by what its command line asks for; or its arguments fit no usage of the
-- tool, and nothing is done
pub data RunsLookUpLine (Asks : Option CommandView → Type 0) (answers : Answers) (before after : Reached)
    : Result ℕ ProgramFault → Type 0 where
  looks_up : {command : CommandView} {result : Result ℕ ProgramFault} → Asks (Some command)
      → RunsLookUp (searching answers.variable answers.file before.asked after.asked) command
      before.written after.written result
      → after.reader ≡ before.reader → RunsLookUpLine Asks answers before after result
  fits_none : Asks None → after ≡ before → RunsLookUpLine Asks answers before after (Err WrongArguments)

-- what envsubst answers: the status 0, or the fault of a device
abbrev pub AnswersStatus : Result (Unit {0}) ToolFault → Result ℕ ProgramFault → Type 0
AnswersStatus (Ok _) result = result ≡ Ok 0
AnswersStatus (Err fault) (Ok status) = ⊥
AnswersStatus (Err fault) (Err reported) = program_text reported ≡ stdin_text fault

-- envsubst is run, by its arguments; each fault is of the device that failed
pub record Substitutes (answers : Answers) (usage : EnvsubstUsage) (before after : Reached)
    (result : Result ℕ ProgramFault) : Type 0 where
  pub outcome : Result (Unit {0}) ToolFault
  pub runs : RunsEnvsubst answers.entries before.reader.left after.reader.left
      before.written.out.bytes after.written.out.bytes usage outcome
  pub read_failures : ReadsFail outcome before.reader.calls after.reader.calls
      before.reader.failures after.reader.failures
  pub write_failures : after.written.out.failures ≡ before.written.out.failures + write_failures outcome
  pub answer : AnswersStatus outcome result
  pub asks_nothing : after.asked ≡ before.asked
  pub files : after.written.files ≡ before.written.files
  pub err : after.written.err ≡ before.written.err

-- the same by its command line, or this fits no usage
pub data RunsEnvsubstLine (line : CommandLine) (answers : Answers) (before after : Reached)
    (result : Result ℕ ProgramFault) : Type 0 where
  runs_envsubst : {variables : Bool} {arguments : List (List ℕ)} {usage : EnvsubstUsage}
      → line.flag (codes "variables") variables → line.texts (codes "SHELL-FORMAT") arguments
      → envsubst_usage variables arguments ≡ Some usage → Substitutes answers usage before after result
      → RunsEnvsubstLine line answers before after result
  no_envsubst : {variables : Bool} {arguments : List (List ℕ)} → line.flag (codes "variables") variables
      → line.texts (codes "SHELL-FORMAT") arguments → FitsNone (envsubst_usage variables arguments) before after result
      → RunsEnvsubstLine line answers before after result

-- what a tool does by its command line
abbrev pub RunsTool : Tool → CommandLine → Answers → Type 0 → Reached → Reached → Result ℕ ProgramFault → Type 0
RunsTool Msgfmt line answers refused before after result = RunsMsgfmtLine line answers refused before after result
RunsTool Msgunfmt line answers refused before after result =
    RunsOne line answers refused IsMsgunfmtRun before after result
RunsTool Msgattrib line answers refused before after result = RunsMsgattribLine line answers refused before after result
RunsTool Msgcat line answers refused before after result = RunsMsgcatLine line answers refused before after result
RunsTool Gettext line answers refused before after result =
    RunsLookUpLine (AsksGettext line.flag line.text line.texts) answers before after result
RunsTool Ngettext line answers refused before after result =
    RunsLookUpLine (AsksNgettext line.flag line.text line.texts) answers before after result
RunsTool Envsubst line answers refused before after result = RunsEnvsubstLine line answers before after result
