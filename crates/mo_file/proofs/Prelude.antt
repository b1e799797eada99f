-- What the proofs of this crate cite of std, of the crates below and of its own definitions. Declares nothing.
pub use Rattle.mo_file.specs.Internal.Checking.{AreRisingBelow, HasStrings, IsChecked, IsFirstBelow, IsHeader}
pub use Rattle.mo_file.specs.Internal.CommonPrefix.{AreEqualBetween, IsCommonPrefix, IsCommonPrefixIn, differs_or_stops_at, first_set}
pub use Rattle.mo_file.specs.Prelude.{AreRising, HasFault, HasFaultIn, HasMagicOf, IsCut, IsFirstFault, IsKnownMajor, IsMoFile, IsNotRising, IsOutside, IsStringAt, IsUnterminated, KnownRevisionsAreValid, Lacks, LayoutIsMoFile, Message, NoHashTableIsLaidOut, context_of, end_at, forms, hash_size, header, id_of, index, is_eot, is_nul, key_at, key_cmp, key_of, keys, kind, layout, layout_of_revision, magic, message, message_at, message_count, offset_at, original_at, originals, originals_offset, originals_table, plural_of, revision, strings_of, table, terminated, translation_at, translations, translations_offset, translations_table}
unfoldable pub use Rattle.mo_file.specs.Prelude.{messages_of, string_at, word_at, word_bytes}
pub use Rattle.mo_file.specs.declared.byte_order.Order.{Order}
pub use Rattle.mo_file.specs.declared.byte_order.Order.TheVariants.{Big, Little}
pub use Rattle.mo_file.specs.declared.fault.MoError.{MoError}
pub use Rattle.mo_file.specs.declared.fault.MoError.TheVariants.{BadMagic, BadRevision, NoTerminator, NotSorted, StringOutside, TableOutside, TooShort}
pub use Rattle.mo_file.specs.declared.file_header.FileHeader.{FileHeader}
pub use Rattle.std.proofs.Common.{All, AllPairs, Bool, IsTrue, List, MatchOption, None, Option, Some, [], ap, append_assoc, ap₂, arith, bit_or, cond, drop, false, get_or, inl, inr, length, length-append, map, min, not, refl, replicate, rules, subst, suc, sym, take, true, unwrap_or, zero, ℕ, ⊎_elim, ◌%◌, ◌*◌, ◌++◌, ◌+◌, ◌-◌, ◌/◌, ◌<◌, ◌==◌, ◌^◌, ◌||◌, ◌↔◌, ◌∙◌, ◌∷◌, ◌≡◌, ◌≢◌, ◌≤◌, ◌⊎◌}
pub use Rattle.std.proofs.lemmas.Bool.{cases_eq, cases_lt, eq-eqb, false_from_ne_true, ne_eqb, not-false, not-true}
pub use Rattle.std.proofs.lemmas.List.{append-nil, drop_all, drop_at, get_or-drop, get_or-map, get_or_append_left, get_or_at, length-drop, length-map, length-take-le, take_all, take_at}
pub use Rattle.std.proofs.lemmas.List.Sums.{position_or_len_is, prefix_len-le-length, prefix_len_passes, prefix_len_stops, sum_by-cons}
pub use Rattle.std.proofs.lemmas.Option.{get_or_from_slice_get, slice_get-get_or, slice_get-map, slice_get_cases, slice_get_past, slice_get_within, unwrap_or-slice_get}
pub use Rattle.std.specs.List.{IsAllAdjacentAnswer, after_first, before_first, list_any, position_or_len, prefix_len, slice_get, slice_range, slice_split, sum_by}
pub use Rattle.std.specs.Option.{option_map}
pub use Rattle.std.specs.Ordering.{is_lt, nat_cmp, ordering_reverse, ordering_then}
pub use Rattle.std.specs.declared.cmp.Ordering.{Ordering}
pub use Rattle.std.specs.declared.cmp.Ordering.TheVariants.{Equal, Greater, Less}
