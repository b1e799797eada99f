-- What contracts and proofs cite of the crates below and of this one. Declares nothing.
pub use Rattle.po_tools.specs.Prelude.{answers_of, line_of, reached, reader_of}
pub use Rattle.runs.specs.Prelude.{program_text, writer}
pub use Rattle.process.specs.Answers.{is_for_writing, kind_of, make_fault, no_link, rights_of}
pub use Rattle.process.specs.SystemCalls.{CallLog, Does, SystemCall, called}
pub use Rattle.process.specs.Reading.{ReadsFile, ReadsInput}
pub use Rattle.process.specs.OutputCalls.{GivesOwner, Holds, ReplacesClosed, TakesStream}
pub use Rattle.process.specs.Value.{AreArguments, AreEntries, AreValues, Fills, HasNoText}
pub use Rattle.process.specs.Endings.{GivesHelp, Puts, Reports}
pub use Rattle.process.specs.Program.{AreRefused, EndsTool, Explains, IsFirst, IsFoundIn, NamesNone, NamesTool, RunsProgram, RunsWords}
pub use Rattle.process.specs.Starting.{Starts}
