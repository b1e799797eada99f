-- What contracts and proofs cite of the crates below and of this one. Declares nothing.
pub use Rattle.runs.specs.Prelude.{Asks, RunsInput, asked_for, asking, is_standard, run_view}
pub use Rattle.msgunfmt.specs.Msgunfmt.{IsMsgunfmtRun, IsMsgunfmtRunOf, unformat_line, unformat_text}
pub use Rattle.msgunfmt.specs.Unformatted.{AreWrittenAs, HasFirstEntryTextFault, HasForeignCharset, IsFileOf, IsUnformatFault, IsUnformatted, entry_of_message, taken_forms, unformatted}
pub use Rattle.msgunfmt.specs.Laws.{CompilesTo, EmptyText, NoFaultWhereUnformatted, OneText, OneUnformatFault, TextOrFault, UnformatThenCompile, ContainsForms, ContainsKey, ContainsMsgid, EntriesAreOfMessages, IsAfterPart, IsEntryOf}
