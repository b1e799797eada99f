-- What the proofs of this crate cite of std, of the crates below and of its own definitions. Declares nothing.
pub use Rattle.msgcat.specs.Groups.{first_ones, with_new}
pub use Rattle.msgcat.specs.Internal.Inputs.{AreNumberedInputs, AreReadUpTo, IsFaultOfFirst, IsFirstRepeating, IsFirstWithNul, IsReadingOf, IsTextOf, entries_at, name_of, no_entry, with_part}
pub use Rattle.msgcat.specs.Internal.JoinedTranslations.{FormList, HasTranslations, form_list, form_lists, joined_at, joined_lists, most_forms, named_forms, rest_of, rests}
pub use Rattle.msgcat.specs.Internal.MergedText.{IsPartWritten, IsTextOfMerged, is_of_part}
pub use Rattle.msgcat.specs.Internal.Merging.{HaveSameTexts, has_part}
pub use Rattle.msgcat.specs.Laws.{first_entry, live, no_further, no_more, none, obsolete, of_nothing, translated, with_feed, with_form, without_feed, without_form}
pub use Rattle.msgcat.specs.Prelude.{AreLinked, AreLiveOf, AreReadAs, AreReadInputs, CanBeMerged, CommentsOfFirst, DefinedByLive, DistinctInputsStay, EndsForm, FaultIsOfNoLine, FormsAreJoined, FormsAreOfOne, FormsOfFirst, GroupsByNumber, HasNulName, HaveNoRun, HoldInputs, IsChain, IsDefinition, IsFileFault, IsFirstTranslated, IsGroup, IsInput, IsJoinedForm, IsMergeFault, IsMsgcatRun, IsReadInput, IsRunOf, IsSameButLine, IsTranslated, IsUnread, IsUnreadBeforeNul, IsUntranslated, JoinedAsLongest, JoinedIsFuzzy, JoinedWhereTheyDiffer, KeptMessagesStand, LinesAreNotMerged, MergedAreEntries, MergedCanStand, MessagesStandOnce, Named, NamedEntry, ObsoleteWhereNoneIsLive, OneDefinitionStays, OneInputStays, PluralOfFirst, PreviousOfFirst, StandInTurn, TextsInOrder, TextsOfAll, TranslatedStays, TranslationsDiffer, WithItself, all_entries, by_number, collected, comment_of, count_messages, definitions, definitions_by, ended, first_name, first_of, first_translated, first_with, form_count, groups, has_message, has_plural, has_previous, has_text, indexes_by, is_joined, is_kept, is_wanted, joined_form, joined_forms, keep_all, marked, merged, merged_entry, merged_messages, message_numbers, messages, msgcat_line, name_of_first, named, named_entries, named_entry, named_messages, no_input, same_forms, same_message, texts_of, translations, unnamed, with_number, with_others}
pub use Rattle.msgcat.specs.declared.input.MergeOptions.{MergeOptions}
pub use Rattle.msgcat.specs.declared.input.ReadInput.{ReadInput}
pub use Rattle.msgcat.specs.declared.inputs.FileFault.{FileFault}
pub use Rattle.msgcat.specs.declared.inputs.ReadInputs.{ReadInputs}
pub use Rattle.po_entry.proofs.MessageNumbers.{any_first_ones, numbers_below}
pub use Rattle.po_entry.proofs.CommentElements.{any_passing}
pub use Rattle.po_entry.proofs.MessageNumbers.{contexts_are, same_message_laws}
pub use Rattle.po_entry.proofs.AdmittedTexts.{quoted_parts}
pub use Rattle.po_entry.specs.Prelude.{AllDiffer, AreDistinct, AreNumbered, AreUpTo, HasAdmittedCharset, HasNoDuplicate, IsCatalogueEntry, IsEntry, IsFlag, IsNumbered, IsReference, IsSameMessage, IsTranslatorComment, Lacks, Message, ReadsText, RepeatsOnLines, TextEntry, TextPrevious, are_placed, digest_of, entry_message, entry_messages, first_form, group_numbers, has_translation, is_header, is_live, is_of_message, no_previous, number_in, out_of_memory, place_of, plain_entry, previous_texts, split_forms, texts, texts_eq, texts_left, translation_bytes, with_line, with_seen}
pub use Rattle.po_entry.specs.declared.repeats.EntryPlace.{EntryPlace}
pub use Rattle.po_syntax.specs.Facts.AllAppend.{All-left, All-right}
pub use Rattle.po_syntax.specs.Facts.Filters.{all_pass, none_pass}
pub use Rattle.po_syntax.specs.Facts.Mapped.{any_map, cond_ap, filter_map, find_map}
pub use Rattle.po_syntax.specs.Facts.Zips.{zip_at, zip_get, zip_length, zip_more, zip_split}
pub use Rattle.po_syntax.specs.Prelude.{IsComment, IsText}
pub use Rattle.po_syntax.specs.declared.fault.PoError.{PoError}
pub use Rattle.po_syntax.specs.declared.fault.PoFault.TheVariants.{Duplicate, ForeignCharset}
pub use Rattle.po_syntax.specs.declared.item.CommentKind.{CommentKind}
pub use Rattle.po_syntax.specs.declared.item.CommentKind.TheVariants.{Extracted, Flags, Reference, Translator}
pub use Rattle.runs.specs.Facts.RunEnds.{inputs_ended, none_read, none_unread}
pub use Rattle.runs.specs.Prelude.{NamedFile, RunView, named_file, named_files, named_inputs, program_text, refusal, run_view}
pub use Rattle.runs.specs.declared.program_fault.ProgramFault.{ProgramFault}
pub use Rattle.runs.specs.declared.program_fault.ProgramFault.TheVariants.{CannotOpen, OutOfMemory}
pub use Rattle.std.proofs.Common.{Bool, Err, IfErr, IfOk, List, None, Ok, Option, Result, Some, [], ap, append-nil, append_assoc, ap₂, arith, codes, cond, drop, false, filter, find, fold, get_or, inl, inr, is_some, length, length-append, map, max, nat_eq, nat_lt, not, option_map, pred, refl, rules, set, slice_get, subst, suc, sym, take, true, zero, ℕ, ◌&&◌, ◌++◌, ◌+◌, ◌-◌, ◌<◌, ◌==◌, ◌||◌, ◌∙◌, ◌∷◌, ◌≡◌, ◌≢◌, ◌≤◌, ◌⊎◌}
pub use Rattle.std.proofs.Math.Bool.{and-false, or-false, or-true, or_assoc}
pub use Rattle.std.proofs.Math.ListN.{get_or-append}
pub use Rattle.std.proofs.Math.Seq.{drop-append_seam, drop-cons, get_or-append_seam, take-append_seam}
pub use Rattle.std.proofs.lemmas.Bool.{and_parts, cases_Bool, cases_order, cond_both, eq-eqb, eqb-true, false_from_ne_true, false≢true, lt-ltb, ne_eqb, not-false, not-true, or_parts}
pub use Rattle.std.proofs.lemmas.Bool.Decides.{eqb_tells, nat_tests, not_from_Decides}
pub use Rattle.std.proofs.lemmas.Grind.{flat_map-append, get_or_default_zero}
pub use Rattle.std.proofs.lemmas.Iterator.{YieldsList-from_slice}
pub use Rattle.std.proofs.lemmas.Iterator.Search.{any_from_yields_List}
pub use Rattle.std.proofs.lemmas.List.{drop-map, get_or-map, get_or-set_other, get_or-set_same, get_or_at, get_or_default, length-drop, length-map, length-set, length-take, length_push, map-append, take-append-drop, take-append-le, take-map, take_all, take_more}
pub use Rattle.std.proofs.lemmas.List.Elements.{All-append, All-cons, All-contains, All-contains_itself, All-filter, All-head, All-map, All-nil, All-push, All-tail, All-take, All-weaker, Contains-append_cases, Contains-append_right, Contains-get_or, filter-append, filter_agree, filter_passes}
pub use Rattle.std.proofs.lemmas.List.Folds.{Any-from_list_any, find-append, flat_map-map, fold-map, list_any-append, list_any_at, list_any_none}
pub use Rattle.std.proofs.lemmas.List.FromFn.{fill_by_all, get_or-map-range_with_len, get_or-range_with_len, length-map-range_with_len, length-range_with_len, map-range_with_len_more}
pub use Rattle.std.proofs.lemmas.List.Sums.{fold-append, fold_push}
pub use Rattle.std.proofs.lemmas.Result.{IfOk-weaker, MatchResult-from_both, err_from_is_err_and}
pub use Rattle.std.proofs.lemmas.Simd.{map-map}
pub use Rattle.std.proofs.lemmas.Slice.Eq.{bytes_eq-Decides, slice_eq-Decides}
pub use Rattle.std.specs.BTreeMap.{is_at}
pub use Rattle.std.specs.Bool.{Decides}
pub use Rattle.std.specs.Borrow.{Bor}
pub use Rattle.std.specs.Cmp.{IsEquivalence, and_equiv, booleans_Decides, on_equiv}
pub use Rattle.std.specs.Cmp.Lexicographic.{lists_equiv, nat_list_eq_equiv, options_equiv, slice_cmp, texts_ties}
pub use Rattle.std.specs.List.{AllZip, ends_with, flat_map, join_with_byte, list_any, position_or_len, range_with_len}
pub use Rattle.std.specs.Option.{option_eq, option_map_or}
pub use Rattle.std.specs.Ordering.{nat_cmp}
pub use Rattle.std.specs.Prelude.{All, Contains, IfSome, IsUtf8, MatchOption, bytes_eq, if◌then◌else◌, option_to_list}
