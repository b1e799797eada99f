-- What the proofs of this crate cite of std, of the crates below and of its own definitions. Declares nothing.
pub use Rattle.po_entry.specs.Comments.{blank, first, flag, fuzzy, here, last, later, more, no_comment, no_flag, no_text, none, other_kind, reference, references, repeated}
pub use Rattle.po_entry.specs.Facts.EqualityLaws.{answer, entry_decide}
pub use Rattle.po_entry.specs.Facts.FirstRepeats.{all_of_both, none_or_first_repeat, none_repeats, one_repeat, pairs_map, pairs_of_map, repeat_by, repeat_map}
pub use Rattle.po_entry.specs.Header.{ascii, at_byte, at_end, named, no_name, template, unnamed, us_ascii, utf8, utf_8}
pub use Rattle.po_entry.specs.Prelude.{Adds, AdmitsCharset, AllDiffer, AreLaid, AreNumbered, AreTexts, AreUpTo, CanLie, CommentText, CountsAddUp, DifferUpTo, EmptyAreUntranslated, EndsContext, EndsName, EndsReference, EntryTextFault, FaultNamesEarlier, FlaggedAreFuzzy, Grows, HasAdmittedCharset, HasNoDuplicate, HasTexts, HaveFuzzyFlag, HaveReferences, InputEntry, IsAdmittedName, IsAfterName, IsAround, IsCatalogueEntry, IsClean, IsDuplicateFault, IsEntry, IsFirstDuplicate, IsFirstRepeat, IsHeaderEntry, IsNumbered, IsSameMessage, IsWithoutBlanks, KeepsFlags, Lacks, LiesIn, ListsFlags, ListsReferences, Message, NamesAdmitted, NamesCharset, NamesEarlier, NamesFlag, OmitsLaterHeaders, PluralFollows, Repeats, RepeatsAt, RepeatsOnLines, SpellsEntries, SpellsHead, TextEntry, WritesCount, WritesFurther, WritesStatistics, after_charset, after_nul, all_listed_flags, are_placed, changed_at, charset_of, context_in, context_length, counted, cut_texts, digest_of, duplicate_fault, ends_name, entries_from, entries_in, entries_of, entries_of_inputs, entry_at, entry_bytes, entry_message, entry_messages, entry_of, entry_view, first_form, first_ones, flags_of, forms_in, forms_left, forms_of, further, further_texts, fuzzy_of, group_numbers, has_header_before, has_no_head, head_at, head_bytes, head_parts, in_input, is_empty_list, is_fuzzy_flag, is_header, is_live, is_live_header, is_looked_at, is_not_empty, is_omitted, join_out_of_memory, joined_from, kept_entries, key_bytes, key_writes, keys_writes, length_bytes, listed_flags, listed_references, live_entries, measured, moved, no_previous, number_in, optional_bytes, optional_in, own_at, own_bytes, part_at, place_of, plain_entry, plural_in, previous_in, previous_texts, quoted_texts, references_of, row_of, same_kind, same_message, split_forms, stats_line, stats_of, text_before, text_length, texts, texts_after, texts_left, trimmed, with_flag, with_new, with_seen}
unfoldable pub use Rattle.po_entry.specs.Prelude.{message_hash, texts_in}
pub use Rattle.po_entry.specs.Validity.EntryTextFault.{forbidden, not_utf8}
pub use Rattle.po_entry.specs.declared.duplicate.JoinError.{JoinError}
pub use Rattle.po_entry.specs.declared.repeats.EntryPlace.{EntryPlace}
pub use Rattle.po_entry.specs.declared.row.Row.{Row}
pub use Rattle.po_entry.specs.declared.seen_texts.SeenText.{SeenText}
pub use Rattle.po_entry.specs.declared.stats.Stats.{Stats}
pub use Rattle.po_syntax.specs.Facts.AllAppend.{All-left, All-right}
pub use Rattle.po_syntax.specs.Facts.Mapped.{any_map, filter_map}
pub use Rattle.po_syntax.specs.Facts.Runs.{end_parts, from_end, kept_is, parts_of}
pub use Rattle.po_syntax.specs.Prelude.{EndsInString, FailsFirst, IsBlank, IsText, TextItem, is_blank, skip_blanks, without_end}
pub use Rattle.po_syntax.specs.declared.fault.PoFault.{PoFault}
pub use Rattle.po_syntax.specs.declared.fault.PoFault.TheVariants.{Duplicate, ForbiddenByte, NotUtf8, OutOfMemory}
pub use Rattle.po_syntax.specs.declared.item.CommentKind.{CommentKind}
pub use Rattle.po_syntax.specs.declared.item.CommentKind.TheVariants.{Extracted, Flags, Reference, Translator}
pub use Rattle.std.proofs.Common.{AllPairs, Bool, Err, IsOkUnless, IsPermutation, IsSorted, IsTrue, IsUtf8, List, MatchResult, None, Ok, OnErr, Option, Result, Some, [], add-one, ap, append-nil, append_assoc, ap₂, arith, codes, cond, decimal, drop, eqb, false, filter, fold, get_or, get_or-take, inl, inr, is_none, length, length-append, length-drop, length-take, map, nat_eq, nat_lt, not, refl, rules, set, slice_index_or, subst, suc, sym, take, true, zero, ℕ, ⊎_elim, ◌&&◌, ◌++◌, ◌+◌, ◌-◌, ◌<◌, ◌==◌, ◌^◌, ◌||◌, ◌↔◌, ◌∙◌, ◌∷◌, ◌≡◌, ◌≢◌, ◌≤◌, ◌⊎◌}
pub use Rattle.std.proofs.Math.Bool.{and-false, and-true, and_assoc, and_comm, or-false, or-true, or_assoc}
pub use Rattle.std.proofs.Math.Seq.{drop-append-add, drop-append_seam, drop-cons, take-append_seam, take-suc-set}
pub use Rattle.std.proofs.lemmas.Bool.{and_parts, both_ways, cases_Bool, cases_eq, cases_lt, cond-false, cond-true, cond_both, eq-eqb, eqb-false, eqb-true, false_from_ne_true, false≢true, le-ltb, lt-ltb, ltb-false, ltb-true, ne_eqb, not-false, not-true, or_cases, or_from, or_left, or_parts, or_right}
pub use Rattle.std.proofs.lemmas.Grind.{common_steps, flat_map-append}
pub use Rattle.std.proofs.lemmas.List.{append_cancel_left, drop-append-le, drop_at, drop_min, drop_more, get_or-map, get_or_at, get_or_default, length-map, map-append, nil_from_length, take-append-drop, take-append-le, take-take, take_all, take_at, take_min, take_more}
pub use Rattle.std.proofs.lemmas.List.Elements.{All-append, All-cons, All-filter, All-head, All-map, All-nil, All-push, All-set, All-tail, All-weaker, Contains-append_left, Contains-push, Contains-push_cases, filter-append, filter_agree, filter_passes}
pub use Rattle.std.proofs.lemmas.List.Folds.{list_any-append, list_any_at, position_or_len_push}
pub use Rattle.std.proofs.lemmas.List.Kept.{AllPairs-filter, AllPairs-from_increasing}
pub use Rattle.std.proofs.lemmas.List.Sorted.{IsNonDecreasingBy-from_sort, IsPermutation-sym, answers_always}
pub use Rattle.std.proofs.lemmas.List.Splits.{join_with_byte-slice_split, length-slice_split, slice_split-cons_yes, slice_split_at, slice_split_none}
pub use Rattle.std.proofs.lemmas.List.Sums.{count_by-le-length, fold-append, fold_push, length-filter, passes_at_first}
pub use Rattle.std.proofs.lemmas.Map.Views.{Contains-from_any}
pub use Rattle.std.proofs.lemmas.Slice.Eq.{bytes_eq-Decides, starts_is}
pub use Rattle.std.proofs.lemmas.Str.{IsUtf8-from_is_utf8, IsUtf8-nil, is_utf8-from_IsUtf8}
pub use Rattle.std.specs.Char.{to_ascii_lowercase}
pub use Rattle.std.specs.Cmp.{IsEquivalence, nat_eq_equiv}
pub use Rattle.std.specs.Cmp.Lexicographic.{nat_list_eq_equiv}
pub use Rattle.std.specs.Global.{Vec}
pub use Rattle.std.specs.Hash.DefaultHasher.{finish, initial, write}
pub use Rattle.std.specs.List.{IsAllAdjacentAnswer, before_first, flat_map, join_with_byte, list_any, position_or_len, prefix_len, slice_split, starts_with}
pub use Rattle.std.specs.List.Sorted.{IsStrictlyIncreasing}
pub use Rattle.std.specs.Prelude.{All, Contains, Decides, IfSome, MatchOption, if◌then◌else◌, is_some, option_copied, option_to_list, position, slice_get, unwrap_or}
pub use Rattle.std.specs.Str.{bytes_eq, is_utf8}
