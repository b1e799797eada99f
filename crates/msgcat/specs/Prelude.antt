-- What contracts and proofs cite of the crates below and of this one. Declares nothing.
pub use Rattle.po_entry.specs.Prelude.{HasAdmittedCharset, HasNoDuplicate, IsCatalogueEntry, Lacks, TextEntry, digest_of, entry_messages, entry_view, first_ones, group_numbers, out_of_memory, seed_of, texts, texts_left}
pub use Rattle.runs.specs.Prelude.{AsksFirst, NamedFile, asking, named_files, named_inputs, program_text, run_view}
pub use Rattle.msgcat.specs.Msgcat.{AreReadAs, HasNulName, IsFileFault, IsMerged, IsMsgcatRun, IsReadAs, IsUnread, IsUnreadBeforeNul, first_name, msgcat_line}
pub use Rattle.msgcat.specs.Options.{AreMergeOptions, or_zero}
pub use Rattle.msgcat.specs.WholeRun.{HaveNoRun, IsRunOf, RunsMsgcat}
pub use Rattle.msgcat.specs.Inputs.{Named, NamedEntry, all_entries, named, named_entries, named_entry}
pub use Rattle.msgcat.specs.Groups.{AreLinked, IsChain, by_number, definitions, definitions_by, groups, indexes_by, same_message, with_number, IsDefinition, IsGroup, message_numbers, named_messages}
pub use Rattle.msgcat.specs.Merged.{IsMergeFault, collected, comment_of, ended, first_of, first_translated, first_with, form_count, has_plural, has_previous, is_below, is_joined, is_kept, is_wanted, joined_form, joined_forms, marked, merged, merged_entry, merged_messages, messages, same_forms, texts_of, translations, with_others}
pub use Rattle.msgcat.specs.MergeInputs.{AreReadInputs, CanBeMerged, HoldInputs, IsReadInput, count_messages, name_of_first, no_input, unnamed}
pub use Rattle.msgcat.specs.Laws.{DistinctInputsStay, FaultIsOfNoLine, FormsAreOfOne, GroupsByNumber, IsInput, KeptMessagesStand, MergedAgain, MergedAreEntries, MergedCanStand, MessagesStandOnce, OneDefinitionStays, OneInputStays, StandInTurn, WithItself, has_message, keep_all, AreLiveOf, DefinedByLive, EndsForm, FormsAreJoined, IsJoinedForm, IsSameButLine, JoinedIsFuzzy, KeptByCount, LinesAreNotMerged, ObsoleteWhereNoneIsLive, PluralOfFirst, PreviousOfFirst, TextsInOrder, TextsOfAll, has_text, CommentsOfFirst, FormsOfFirst, HasLongest, HeadersAreKept, IsFirstTranslated, IsTranslated, IsUntranslated, JoinedAsLongest, JoinedWhereTheyDiffer, TranslatedStays, TranslationsDiffer}
