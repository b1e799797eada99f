-- What the proofs of this crate cite of std, of the crates below and of its own definitions. Declares nothing.
pub use Rattle.mo_expand.specs.Internal.Joining.{HasText, IsJoining, IsPut, IsTried, IsWritten, with_rest}
pub use Rattle.mo_expand.specs.Prelude.{AreSegments, ExampleIsCompleted, ExampleNeedsItsText, ExpandedFileIsMoFile, FirstTextCounts, HaveDistinctKeys, HaveTooLargeFile, IsBeforeNul, IsExpanded, IsFileInAnyOrder, IsFileOfSorted, IsInOrder, IsName, IsPart, IsSystemNumber, MessageIsAddedInOrder, MessageIsItsStrings, MoFileIsInOrder, OneOrder, SameMessageUnderKey, SortedFileIsMoFile, TextIsItsSegments, beside, expanded_messages, from_segment, inserted, join, message_from, name_of, part, strings_len, system_count, system_message, system_messages, terminated_part, text_at, text_of}
unfoldable pub use Rattle.mo_expand.specs.Prelude.{joined, with_message, with_messages}
pub use Rattle.mo_expand.specs.declared.platform_text.PlatformText.{PlatformText}
pub use Rattle.mo_file.proofs.RisingKeys.{greater_is_less, key-by, key_by, keys-by, length-keys, less_is_other, rising-answered, rising-from_sorted, rising_between}
pub use Rattle.mo_file.proofs.RoundTrip.{layout_is_mo_file}
pub use Rattle.mo_file.proofs.RisingKeys.{AreRising-messages_of, length-messages_of, map-messages_of-at}
pub use Rattle.mo_file.specs.Prelude.{AreRising, HasMagicOf, IsMoFile, Message, borrowed_message, end_at, key_at, key_cmp, key_of, keys, message_count, messages_of, messages_of_borrowed, originals, originals_table, revision, translations, translations_table}
unfoldable pub use Rattle.mo_file.specs.Prelude.{string_at, word_at}
pub use Rattle.mo_file.specs.declared.byte_order.Order.{Order}
pub use Rattle.mo_file.specs.declared.fault.MoError.TheVariants.{NotSorted, StringOutside, TableOutside, TooShort}
pub use Rattle.mo_file.specs.declared.pairs.BorrowedPair.{BorrowedPair}
pub use Rattle.std.proofs.Common.{All, AllPairs, Bool, Contains, IsPermutation, IsTrue, List, None, Option, Some, [], ap, append_assoc, ap₂, arith, drop, false, find, get_or, inl, inr, length, length-append, length-drop, length-take, map, refl, rules, subst, suc, sym, take, true, unwrap_or, zero, ℕ, ◌%◌, ◌&&◌, ◌*◌, ◌++◌, ◌+◌, ◌-◌, ◌<◌, ◌==◌, ◌^◌, ◌↔◌, ◌∙◌, ◌∷◌, ◌≡◌, ◌≢◌, ◌≤◌, ◌⊎◌}
pub use Rattle.std.proofs.lemmas.Bool.{and_from, and_parts, cases_lt, cond-false, cond-true, eq-eqb, eqb-false, eqb-true, false_from_ne_true, false≢true, le-leb, leb-true, lt-ltb, ltb-true, ne_eqb}
pub use Rattle.std.proofs.lemmas.Cmp.{nat_list_cmp_total, nat_list_eq_equiv, on_total, tied_itself}
pub use Rattle.std.proofs.lemmas.List.{drop-drop, drop-map, drop-take, get_or-map, get_or_default, get_or_past, length-map, map-append, set_at, take-map, take-take, take_all, take_at, take_more, take_more_set}
pub use Rattle.std.proofs.lemmas.List.Elements.{All-contains, All-head, All-tail}
pub use Rattle.std.proofs.lemmas.List.Sorted.{All-permutation, Contains-permutation, IsPermutation-cons, IsPermutation-map, IsPermutation-middle, IsPermutation-refl, IsPermutation-sym, IsPermutation-trans, answers_always, ranks_by, searchable_from_sorted}
pub use Rattle.std.proofs.lemmas.List.Sums.{fails_before_first, passes_at_first, sum_by-cons}
pub use Rattle.std.proofs.lemmas.Map.Lookups.{exact_bytes}
pub use Rattle.std.proofs.lemmas.Option.{get_or_from_slice_get, none-some, same_Some, slice_get-get_or, slice_get_within}
pub use Rattle.std.proofs.lemmas.Slice.Eq.{bytes_eq-Decides}
pub use Rattle.std.specs.List.{copy_within, position_or_len, range_with_len, slice_range, sum_by}
pub use Rattle.std.specs.List.Sorted.{IsNonDecreasingBy, IsPartitionPoint, IsSortedBy}
pub use Rattle.std.specs.Ordering.{is_lt, ordering_index, ordering_reverse}
pub use Rattle.std.specs.Prelude.{Err, Ok, if◌then◌else◌, is_some, nat_le, nat_lt, option_and_then, option_map, slice_get, slice_index_or, slice_set}
pub use Rattle.std.specs.Str.{bytes_eq}
pub use Rattle.std.specs.declared.cmp.Ordering.{Ordering}
pub use Rattle.std.specs.declared.cmp.Ordering.TheVariants.{Equal, Greater, Less}
