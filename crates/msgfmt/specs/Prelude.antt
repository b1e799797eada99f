-- What contracts and proofs cite of the crates below and of this one. Declares nothing.
pub use Rattle.po_entry.specs.Prelude.{InputEntry, slice_texts}
pub use Rattle.runs.specs.Prelude.{AsksFirst, NamedFile, asking, named_files, named_inputs, refusal, run_view}
pub use Rattle.msgfmt.specs.Msgfmt.{AreChecked, AreWrong, IsDone, IsMsgfmtRun, IsMsgfmtRunOf, IsRefused, NoneRefused, check_line, check_text, compile_options, compiled_run, input_names, input_texts, join_line}
pub use Rattle.msgfmt.specs.Profile.{IsChecked, Reported, checked_message, checked_messages, count_fault, differ, differs_from_msgid, entry_fault, first_fault, first_some, has_newline, is_header_entry, is_plural, rule_fault, taken_entry, value_fault}
unfoldable pub use Rattle.msgfmt.specs.Profile.{counts_below}
pub use Rattle.msgfmt.specs.Laws.{CountFault, Differ, DiffersAt, EntryFault, FirstFault, HasNewline, HasOtherCount, HasPlural, HasProfileFault, IsFirst, NeedsNoOtherRule}
pub use Rattle.msgfmt.specs.Options.{AreMsgfmtOptions, default_output, order_of}
pub use Rattle.msgfmt.specs.WholeRun.{HaveNoRun, IsRunOf, RunsMsgfmt}
