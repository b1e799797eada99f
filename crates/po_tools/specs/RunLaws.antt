-- What a tool writes and reports, and its exit status, are functions of its inputs: it has one run.
use Rattle.std.specs.Prelude.{◌≡◌, ℕ, List}
use Rattle.msgfmt.specs.declared.options.MsgfmtOptions.{MsgfmtOptions}
use Rattle.gettext.specs.Prelude.{IsLookUpRun, Request}
use Rattle.msgcat.specs.declared.input.MergeOptions.{MergeOptions}
use Rattle.msgattrib.specs.declared.selection.Selection.{Selection}
use Rattle.msgattrib.specs.Prelude.{IsMsgattribRun}
use Rattle.msgcat.specs.Prelude.{IsMsgcatRun}
use Rattle.msgfmt.specs.Prelude.{IsMsgfmtRun}
use Rattle.msgunfmt.specs.Prelude.{IsMsgunfmtRun}
use Rattle.runs.specs.Prelude.{NamedFile, RunView}

-- msgfmt has one run of its inputs under its options
abbrev pub OneMsgfmtRun : Type 0
OneMsgfmtRun =
    (inputs : List NamedFile) (options : MsgfmtOptions) (run other : RunView) → IsMsgfmtRun inputs options run
    → IsMsgfmtRun inputs options other → run ≡ other

-- gettext and ngettext have one run of a request over its catalogues
abbrev pub OneLookUpRun : Type 0
OneLookUpRun = (files : List NamedFile) (request : Request) (run other : RunView) → IsLookUpRun files request run
    → IsLookUpRun files request other → run ≡ other

-- msgunfmt has one run of its file
abbrev pub OneMsgunfmtRun : Type 0
OneMsgunfmtRun = (file : NamedFile) (run other : RunView) → IsMsgunfmtRun file run → IsMsgunfmtRun file other
    → run ≡ other

-- msgattrib has one run of its text under its selection
abbrev pub OneMsgattribRun : Type 0
OneMsgattribRun =
    (name text : List ℕ) (s : Selection) (run other : RunView) → IsMsgattribRun name s text run
    → IsMsgattribRun name s text other → run ≡ other

-- msgcat has one run of its inputs under its options
abbrev pub OneMsgcatRun : Type 0
OneMsgcatRun = (files : List NamedFile) (o : MergeOptions) (run other : RunView) → IsMsgcatRun files o run
    → IsMsgcatRun files o other → run ≡ other
