-- What the proofs of this crate cite of std, of the crates below and of its own definitions. Declares nothing.
pub use Rattle.gettext.specs.Arguments.{asks_messages, asks_plural_form, fits_no_gettext, fits_no_ngettext}
pub use Rattle.gettext.specs.Candidates.{by_lang, by_lc_all, by_lc_messages, counts, ends, first, five, next_name, no_locale, no_more, no_name, no_part, no_path, of_language, omitted, repeated, the_locale, untranslated}
pub use Rattle.gettext.specs.Escape.{alert, backslash, backspace, carriage_return, escape, form_feed, line_feed, no_newline, nothing, one_digit, plain, stays, tab, three_digits, two_digits, vertical_tab}
pub use Rattle.gettext.specs.Plan.{opened, refused}
pub use Rattle.gettext.specs.Prelude.{AreCandidates, AreCatalogues, AreLanguages, AsksAt, AsksPaths, CanStandInPath, Count, EnvironmentView, Expands, FirstPlaces, GivesCount, HasFive, HasNoText, HasText, HaveFive, IsCLocale, IsCatalogueAt, IsDomain, IsEmptyOrBegins, IsFolder, IsLocale, IsLookUpRun, IsNoEscape, Lists, NoOctalFirst, Opens, Request, SpellsAfter, SpellsByte, SpellsNumber, are_digits, argument_answer, candidates_of, catalogue_file, catalogue_files, catalogue_limit, distinct, domain_of, environment_view, expansion, folder_of, gettext_view, given_bytes, has_no_newline, is_count, is_octal, letter, locale_of, messages_given, non_empty, octal_prefix, octal_value, omits_newline, path_of, plural_form_given}
unfoldable pub use Rattle.gettext.specs.Prelude.{count_in, escape_after, given_bytes_after, letter_escape, with_name}
pub use Rattle.gettext.specs.declared.candidates.Environment.{Environment}
pub use Rattle.gettext.specs.declared.escape.Escape.{Escape}
pub use Rattle.locale_names.proofs.LanguageParts.{byte-at, byte-here, byte-later, nil-from_length, some-from_length}
pub use Rattle.locale_names.specs.Prelude.{candidates, is_path_part, languages, names_from}
unfoldable pub use Rattle.locale_names.specs.Prelude.{before, candidates_of_name, from_first, is_c_locale, language_parts}
pub use Rattle.memchr.specs.Find.{is_byte}
pub use Rattle.mo_file.specs.Prelude.{Lacks}
pub use Rattle.runs.specs.Prelude.{Asked, NamedFile, Reading, RunView, Stays, fault_line, mo_text, named_file, named_files}
pub use Rattle.std.proofs.Common.{All, Bool, List, None, Option, Some, [], ap, append-nil, append_assoc, ap₂, arith, cond, drop, drop_of_length-le, eqb, false, filter, get_or, inl, inr, is_none, length, ltb, map, min, not, refl, rules, subst, suc, sym, take, true, unwrap_or, zero, ℕ, ◌%◌, ◌&&◌, ◌*◌, ◌++◌, ◌+◌, ◌-◌, ◌<◌, ◌==◌, ◌^◌, ◌||◌, ◌∙◌, ◌∷◌, ◌≡◌, ◌≤◌, ◌⊎◌}
pub use Rattle.std.proofs.Math.Bool.{or-false, or-true}
pub use Rattle.std.proofs.lemmas.Bool.{and_from, and_parts, both_ways, cases_Bool, cond-false, cond-true, cond_both, eq-eqb, eqb-false, eqb-true, false_from_ne_true, false≢true, le-leb, leb-true, lt-ltb, ltb-false, ltb-true, ne_eqb, not-false, not-true}
pub use Rattle.std.proofs.lemmas.Bool.Decides.{Decides-and, Decides-by_and, Decides-eqb, Decides-not, Decides-or, not_from_Decides}
pub use Rattle.std.proofs.lemmas.List.{drop_all, drop_more, length-map, map-append, take-append-drop, take-map, take_all, take_min, take_more, take_rest}
pub use Rattle.std.proofs.lemmas.List.Elements.{All-cons, All-head, All-nil, All-tail, All-weaker}
pub use Rattle.std.proofs.lemmas.List.Folds.{Any-from_list_any, list_any-append, list_any-from_Any}
pub use Rattle.std.proofs.lemmas.List.Sums.{prefix_len_is, take_while-cons}
pub use Rattle.std.proofs.lemmas.Slice.Eq.{bytes_eq-Decides}
pub use Rattle.std.proofs.lemmas.Str.Parse.{digit_from_value}
pub use Rattle.std.specs.BTreeMap.{is_at}
pub use Rattle.std.specs.Bool.{Decides}
pub use Rattle.std.specs.Borrow.{Bor}
pub use Rattle.std.specs.Char.{digit_value, is_digit}
pub use Rattle.std.specs.Cmp.Lexicographic.{slice_cmp, texts_ties}
pub use Rattle.std.specs.Global.{Vec}
pub use Rattle.std.specs.List.{filter_map, flat_map, fold, join_with_byte, list_any, onto_first, position_or_len, prefix_len, slice_split}
pub use Rattle.std.specs.Option.{option_copied, option_map, option_or}
pub use Rattle.std.specs.Ordering.{nat_cmp}
pub use Rattle.std.specs.Prelude.{Contains, codes, take_while, ◌↔◌}
pub use Rattle.std.specs.Str.{bytes_eq}
pub use Rattle.std.specs.Str.Parse.{digits_value, digits_value_after}
