-- What the proofs of this crate cite of std, of the crates below and of its own definitions. Declares nothing.
pub use Rattle.locale_names.specs.Prelude.{before, candidates, from_first, is_path_part, is_untranslated, languages, text_of}
unfoldable pub use Rattle.locale_names.specs.Prelude.{candidates_of_name, is_c_locale, language_parts, names_from, names_left}
pub use Rattle.memchr.specs.Find.{IsFirstByte, is_byte}
pub use Rattle.std.proofs.Common.{Bool, List, MatchOption, None, Option, Some, [], ap, arith, cond, drop, drop-cons, eqb, false, filter, inl, inr, length, not, refl, slice_get, subst, suc, sym, take, true, unwrap_or, ℕ, ◌++◌, ◌+◌, ◌-◌, ◌<◌, ◌==◌, ◌∙◌, ◌∷◌, ◌≡◌, ◌≤◌}
pub use Rattle.std.proofs.lemmas.Bool.{both_ways, cases_Bool, cond-false, cond-true, eqb-true, false_from_ne_true}
pub use Rattle.std.proofs.lemmas.List.{drop-drop, drop_all, take_rest}
pub use Rattle.std.proofs.lemmas.List.Sums.{position_or_len_is, take_while-cons}
pub use Rattle.std.specs.List.{flat_map, onto_first, position_or_len, slice_split}
