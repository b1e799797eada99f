-- What contracts and proofs cite of the crates below and of this one. Declares nothing.
pub use Rattle.msgattrib.specs.Prelude.{IsMsgattribRun, changed, selected}
pub use Rattle.msgfmt.specs.Prelude.{AreChecked, IsMsgfmtRunOf}
pub use Rattle.po_tools.specs.NamedInputs.{AreStored, input_view, inputs_view}
pub use Rattle.po_tools.specs.RunLaws.{OneLookUpRun, OneMsgattribRun, OneMsgcatRun, OneMsgfmtRun, OneMsgunfmtRun}
pub use Rattle.po_tools.specs.RunsOver.{RunsOver}
pub use Rattle.po_tools.specs.ToolRun.{Answers, AnswersStatus, CommandLine, Reached, ReaderView, RunsEnvsubstLine, RunsLookUpLine, RunsTool, Substitutes, answers_of, line_of, reached, reader_of}
pub use Rattle.po_tools.specs.ChainLaws.{CompiledAreKept, CompilesAlike, KeptCompilesAlike, LongerChainAnswersAlike, MsgcatAgain, MsgcatCompilesAlike, MsgcatOfSeveral, ThereAndBack}
