-- What the proofs of this crate cite of std, of the crates below and of its own definitions. Declares nothing.
pub use Rattle.memchr.specs.Find.{IsFirstByte, NoneBefore, Nowhere, Passes, is_byte}
pub use Rattle.mo_file.proofs.RisingKeys.{equal_is_same, greater_is_less, less_is_other, rising_between}
pub use Rattle.mo_file.specs.Prelude.{AreRising, FileView, IsStringAt, IsTranslationAt, Message, forms, is_nul, key_at, key_cmp, key_of, keys, query_key, translations}
pub use Rattle.mo_lookup.specs.Prelude.{AnswerView, CatalogView, ChainAsksAll, ChainAsksUpToFirst, IsFormAt, IsIndexOf, IsPlace, LacksNulAndEot, NoneHas, Query, answer, answered, answering_nodes, asked, can_be_key, chain_answered, chain_bound, chain_comparisons, comparisons_within, form_at, forms_found, half, halvings_within, has_no_separator, header_text, is_separator, keys_left, located_view, query, translated, translates, translation_under, untranslated, untranslated_place, untranslated_text}
unfoldable pub use Rattle.mo_lookup.specs.Prelude.{comparisons, search_bound}
pub use Rattle.std.proofs.Common.{Bool, List, None, Option, Some, [], ap, arith, drop, false, get_or, inl, inr, length, length-append, length-drop, max, min, not, one-add, refl, rules, slice_get, slice_range, subst, suc, sym, take, true, unwrap_or, zero, ℕ, ◌*◌, ◌++◌, ◌+◌, ◌-◌, ◌/◌, ◌<◌, ◌==◌, ◌^◌, ◌∙◌, ◌∷◌, ◌≡◌, ◌≢◌, ◌≤◌, ◌⊎◌}
pub use Rattle.std.proofs.lemmas.Bool.{and_from, and_parts, cases_Bool, cases_eq, cases_lt, false_from_ne_true, ne_eqb, not-true, or_from, or_right}
pub use Rattle.std.proofs.lemmas.List.{drop-drop, drop-take, drop_all, get_or-drop, get_or-map, get_or-take, length-map, length-take, take-take, take_rest}
pub use Rattle.std.proofs.lemmas.List.Elements.{All-from_get_or}
pub use Rattle.std.proofs.lemmas.List.Folds.{find_at, list_any_at, list_any_none}
pub use Rattle.std.proofs.lemmas.List.Sums.{position_or_len_is}
pub use Rattle.std.proofs.lemmas.Option.{get_or_from_slice_get, slice_get-get_or, slice_get-map, slice_get_past, slice_get_within}
pub use Rattle.std.specs.List.{find, list_any, position_or_len}
pub use Rattle.std.specs.Option.{is_some, option_and_then, option_copied, option_map, option_map_or}
pub use Rattle.std.specs.Prelude.{MatchOption, if◌then◌else◌, ◌↔◌}
pub use Rattle.std.specs.declared.cmp.Ordering.{Ordering}
pub use Rattle.std.specs.declared.cmp.Ordering.TheVariants.{Equal, Greater, Less}
