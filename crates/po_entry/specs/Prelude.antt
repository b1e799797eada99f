-- What contracts and proofs cite of the definitions of this crate. Declares nothing.
pub use Rattle.po_entry.specs.TextEntry.{SameButLine, TextEntry, TextPrevious, no_previous, optional_text, plain_entry, previous_texts, quoted_texts, slice_texts, texts, with_line}
pub use Rattle.po_entry.specs.TextList.{AreTexts, cut_texts, length_bytes, measured, text_before, text_length, texts_left}
unfoldable pub use Rattle.po_entry.specs.TextList.{texts_in}
pub use Rattle.po_entry.specs.SeenTexts.{digest_of, seed_of, with_seen}
pub use Rattle.po_entry.specs.Rows.{Adds, AreLaid, CanLie, EndsContext, Grows, LiesIn, PluralFollows, after_nul, changed_at, context_in, context_length, entries_in, entry_at, entry_bytes, entry_of, forms_in, forms_left, forms_of, further_texts, has_no_head, head_at, head_bytes, head_parts, headed, is_empty_list, key_bytes, message_entry, moved, optional_bytes, optional_in, original_bytes, own_at, own_bytes, part_at, plural_in, previous_in, row_of, set_fuzzy, set_obsolete, split_forms, texts_after, translation_bytes}
pub use Rattle.po_entry.specs.Fields.{bodies_eq, borrowed_entry, comments_eq, entry_eq, entry_view, optional_eq, previous_eq, texts_eq}
pub use Rattle.po_entry.specs.Texts.{AreDistinct, Lacks, Meets, trimmed}
pub use Rattle.po_entry.specs.Header.{AdmitsCharset, EndsName, HasAdmittedCharset, IsAdmittedName, IsAfterName, IsAround, IsHeaderEntry, NamesAdmitted, NamesCharset, after_charset, charset_of, ends_name, first_form, is_header}
pub use Rattle.po_entry.specs.Validity.{EntryTextFault, HasTexts, IsCatalogueEntry, IsClean, IsEntry, IsFlag, IsReference, IsRefusedEntry, IsTranslatorComment, RefusesMessage, out_of_memory}
pub use Rattle.po_entry.specs.Comments.{CommentText, EndsReference, HaveFuzzyFlag, HaveReferences, IsWithoutBlanks, KeepsFlags, ListsFlags, ListsReferences, NamesFlag, PreviousText, all_listed_flags, flags_of, fuzzy_of, is_fuzzy_flag, is_not_empty, listed_flags, listed_references, previous_of, rank, references_of, same_kind, texts_of, with_flag, with_previous}
pub use Rattle.po_entry.specs.Spelling.{AreInOrder, AreSome, SpellsBody, SpellsContext, SpellsEntries, SpellsEntry, SpellsForms, SpellsHead, SpellsKeywordText, SpellsStrings, SpellsTranslation, with_head, ReadsItems, ReadsLeft, ReadsText}
pub use Rattle.po_entry.specs.Faults.{CharsetFault, EntriesStop, IsMixed, IsOwn, IsReadFault, IsViable, IsWrongIndex, ItemsFault, ItemsStop, Misfit, last_line, with_obsolete}
pub use Rattle.po_entry.specs.Joined.{InputEntry, entries_of, in_input, is_live, is_live_header, joined, joined_entries, joined_from, kept_entries}
pub use Rattle.po_entry.specs.Message.{Message, entry_message, entry_messages, first_ones, group_numbers, key_writes, keys_writes, same_message, with_new}
unfoldable pub use Rattle.po_entry.specs.Message.{message_hash}
pub use Rattle.po_entry.specs.Laws.{CountsAddUp, EmptyAreUntranslated, FaultNamesEarlier, FlaggedAreFuzzy, NamesEarlier, OmitsLaterHeaders, WritesCount, WritesFurther, WritesStatistics, entries_from, entries_of_inputs, has_empty_first_form, has_header_before, is_omitted, live_messages}
pub use Rattle.po_entry.specs.Duplicate.{AllDiffer, AreNumbered, AreUpTo, DifferUpTo, HasNoDuplicate, IsDuplicateFault, IsDuplicateFaultOf, IsFirstDuplicate, IsFirstRepeat, IsNumbered, IsSameMessage, IsTextFault, ReadsDistinct, Repeats, RepeatsAt, RepeatsOnLines, are_placed, duplicate_fault, is_looked_at, is_of_message, join_out_of_memory, live_entries, number_in, place_of}
pub use Rattle.po_entry.specs.Stats.{counted, further, has_translation, is_counted, is_fuzzy, is_translated, is_untranslated, stats_line, stats_of}
