-- What the proofs of this crate cite of std, of the crates below and of its own definitions. Declares nothing.
pub use Rattle.mo_file.proofs.Cuts.{before_all, before_is, context_cut, context_none, first_all, id_all, id_cut, plural_cut, plural_none, split_cut, split_none}
pub use Rattle.mo_file.proofs.RisingKeys.{equal_is_same, first_of, greater_is_less, less_is_other, rising-answered, rising-from_sorted, rising_between}
pub use Rattle.mo_file.specs.Prelude.{AreRising, IsBuildFault, IsMoFile, LayoutIsMoFile, Message, borrowed_message, context_of, forms, id_of, is_nul, key_cmp, key_of, keys, layout, messages_of_borrowed, originals, originals_offset, plural_of, query_key, table, terminated, translations, translations_offset}
pub use Rattle.mo_lookup.specs.Prelude.{Query, answer, can_be_key, form_at, has_no_separator, header_text, is_separator, translation_under}
pub use Rattle.po_compile.specs.Internal.{AllApart, AreSortedRows, EachApart, HasOneHeader, HaveOneKey, InputMessage, IsRepeat, IsRepeatAt, IsRepeatFault, IsRepeatInInput, all_messages, compiled_of, counts_fuzzy, counts_of, counts_translated, counts_untranslated, has_no_key, in_input_message, input_keys, input_message, is_joined, joined_messages, message_keys, repeat_fault, row_key, row_view, view_of_message}
pub use Rattle.po_compile.specs.Laws.{asked_for, compiled, header, none, not_fuzzy, omitted, too_large}
pub use Rattle.po_compile.specs.Prelude.{AcceptedOrFault, AreAccepted, AreCollected, AreCompiled, AreMessagesOf, AreRead, CompiledCanBeKeys, CompiledView, HasJoinedDuplicate, HoldCatalogues, IsCompileFault, IsFaultOfInput, IsReadingFault, IsReportedFault, IsToBeCompiled, IsTooLarge, IsTranslated, JoinedEntriesCanStand, KeepsCompiled, LayoutsAreLimited, LiveMessage, LookUpMeansEntries, MayBeUsed, MessagesAreOne, MessagesDiffer, MessagesHaveParts, MessagesMeanEntries, OneCompileFault, OneMoreChangesNoOther, TextsComeBack, compiled_inputs, compiled_list, compiled_message, compiled_view, definition, fault_input, fault_of_input, fault_of_only_input, header_of, is_compiled, layout_fault, live_message, live_messages, message_of, original_of, plural_part, translation_of}
pub use Rattle.po_compile.specs.declared.options.Options.{Options}
pub use Rattle.po_compile.specs.declared.row.Row.{Row}
pub use Rattle.po_entry.proofs.Duplicates.{distinct_has_no_first, entries_of_input, live_of_entries}
pub use Rattle.po_entry.specs.Facts.FirstRepeats.{all_of_both, none_or_first_repeat, none_repeats, one_repeat, pairs_map, pairs_of_map, repeat_by, repeat_map}
pub use Rattle.po_entry.specs.Prelude.{AllDiffer, HasNoDuplicate, InputEntry, IsCatalogueEntry, IsEntry, IsFirstDuplicate, IsFirstRepeat, IsReadFault, IsSameMessage, IsTextFault, Lacks, ReadsDistinct, ReadsText, TextEntry, digest_of, duplicate_fault, entries_of, first_form, has_translation, in_input, is_fuzzy, is_header, is_live, is_live_header, is_of_message, is_translated, is_untranslated, join_out_of_memory, joined, joined_entries, joined_from, kept_entries, key_writes, live_entries, out_of_memory, slice_texts, stats_of, with_seen}
pub use Rattle.po_entry.specs.declared.duplicate.JoinError.{JoinError}
pub use Rattle.po_reader.specs.Prelude.{IsReadSoFar, without_comments}
pub use Rattle.po_syntax.proofs.Faults.{ok_both, passed_on}
pub use Rattle.po_syntax.specs.Facts.Filters.{all_pass}
pub use Rattle.po_syntax.specs.Facts.Mapped.{filter_map, filter_twice, find_map}
pub use Rattle.po_syntax.specs.Prelude.{IsFaultOf, IsText}
pub use Rattle.po_syntax.specs.declared.fault.PoError.{PoError}
pub use Rattle.po_syntax.specs.declared.fault.PoFault.{PoFault}
pub use Rattle.po_syntax.specs.declared.fault.PoFault.TheVariants.{OutOfMemory}
pub use Rattle.std.proofs.Common.{All, AllPairs, Bool, Contains, Err, IfSome, IsPermutation, List, None, Ok, Option, Result, Some, [], ap, append-nil, append_assoc, ap₂, arith, cond, count_by, drop, false, filter, find, get_or, get_or-take, inl, inr, length, length-append, length-take, map, nat_lt, not, option_to_list, refl, replicate, rules, set, subst, subst₂, suc, sym, take, true, zero, ℕ, ⊎_elim, ◌&&◌, ◌*◌, ◌++◌, ◌+◌, ◌<◌, ◌==◌, ◌^◌, ◌||◌, ◌∙◌, ◌∷◌, ◌≡◌, ◌≢◌, ◌≤◌, ◌⊎◌}
pub use Rattle.std.proofs.Math.Seq.{drop-cons, drop-nil, split_at}
pub use Rattle.std.proofs.lemmas.Bool.{and_parts, cases_Bool, cases_lt, cond_both, eqb-true, false≢true, lt-ltb, ne_eqb, not-true, not_from_false, or_cases, or_left, or_parts, or_right}
pub use Rattle.std.proofs.lemmas.Bool.Decides.{Decides-and, Decides-eqb, Decides-like, not_from_Decides}
pub use Rattle.std.proofs.lemmas.Cmp.{nat_list_cmp_total, nat_list_eq_equiv, on_total, ranked}
pub use Rattle.std.proofs.lemmas.List.{at_drop_more, get_or-append-add, get_or-map, get_or_default, length-map, map-append, take-append-drop, take-map, take_all, take_more}
pub use Rattle.std.proofs.lemmas.List.Elements.{All-append, All-cons, All-contains, All-filter, All-from_all_within, All-head, All-map, All-more, All-nil, All-push, All-tail, All-weaker, filter-append, filter_agree, filter_passes}
pub use Rattle.std.proofs.lemmas.List.Folds.{find-append, find_at}
pub use Rattle.std.proofs.lemmas.List.Kept.{AllPairs-cons, AllPairs-filter}
pub use Rattle.std.proofs.lemmas.List.Sorted.{All-permutation, Contains-permutation, IsPermutation-append_comm, IsPermutation-append_left, IsPermutation-append_right, IsPermutation-cons, IsPermutation-filter_both, IsPermutation-keeps, IsPermutation-map, IsPermutation-middle, IsPermutation-refl, IsPermutation-sym, IsPermutation-trans, answers_always, length_permutation, ranks_by}
pub use Rattle.std.proofs.lemmas.List.Sums.{fails_before_first, length-filter, passes_at_first, prefix_len-le-length, prefix_len_passes}
pub use Rattle.std.proofs.lemmas.Map.Made.{AllPairs-from_IsDistinct, Contains-tail, IsDistinct-from_AllPairs}
pub use Rattle.std.proofs.lemmas.Option.{MatchOption-at_some, get_or_from_slice_get, none-some, slice_get-get_or, slice_get_within}
pub use Rattle.std.proofs.lemmas.Result.{IfErr-weaker, IfOk-weaker, MatchResult-from_both, MatchResult-weaker, err_from_is_err_and}
pub use Rattle.std.proofs.lemmas.Simd.{map-map}
pub use Rattle.std.proofs.lemmas.Slice.Eq.{bytes_eq-Decides}
pub use Rattle.std.specs.Bool.{Decides, MatchBool, one_answer}
pub use Rattle.std.specs.Borrow.{Bor}
pub use Rattle.std.specs.List.{AllWithin, AllZip, HoldsAt, flat_map, join_with_byte, list_any, position_or_len, slice_split, swap}
pub use Rattle.std.specs.Option.{option_eq, option_map, option_map_or, option_or, unwrap_or}
pub use Rattle.std.specs.Ordering.{MatchOrdering, is_lt, nat_cmp, ordering_reverse, ordering_then}
pub use Rattle.std.specs.Prelude.{IsTrue, if◌then◌else◌, is_none, ◌↔◌}
pub use Rattle.std.specs.Str.{bytes_eq}
pub use Rattle.std.specs.declared.cmp.Ordering.{Ordering}
pub use Rattle.std.specs.declared.cmp.Ordering.TheVariants.{Equal, Greater, Less}
