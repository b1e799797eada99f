-- What the proofs of this crate cite of std, of the crates below and of its own definitions. Declares nothing.
pub use Rattle.po_catalog.specs.Prelude.{input_entries, input_entry}
pub use Rattle.po_entry.proofs.AdmittedTexts.{IsEntry-emptied, IsEntry-without_previous}
pub use Rattle.po_entry.proofs.AdmittedTexts.{both, of_one, on_option, two}
pub use Rattle.po_entry.proofs.Duplicates.{live_differ, only_memory}
pub use Rattle.po_entry.proofs.AdmittedTexts.{All-pushed, All-written, all_empty}
pub use Rattle.po_entry.specs.Prelude.{DifferUpTo, HasNoDuplicate, HasTexts, InputEntry, IsCatalogueEntry, IsEntry, Lacks, Meets, RepeatsAt, TextEntry, borrowed_entry, entries_of, in_input, is_live, is_live_header, is_looked_at, joined, joined_from, kept_entries, number_in, quoted_texts, slice_texts, stats_of, texts, texts_eq, texts_left, with_line}
pub use Rattle.po_writer.specs.Prelude.{AreParts, written_text}
pub use Rattle.std.proofs.Common.{Bool, IsUtf8, List, None, Option, Some, [], ap, ap₂, arith, drop, false, get_or, inl, length, map, refl, rules, subst, sym, take, tests, true, ℕ, ◌++◌, ◌+◌, ◌<◌, ◌↔◌, ◌∙◌, ◌∷◌, ◌≡◌, ◌≤◌}
pub use Rattle.std.proofs.lemmas.Bool.{false≢true}
pub use Rattle.std.proofs.lemmas.Iterator.{YieldsList-from_slice, cases_from_all}
pub use Rattle.std.proofs.lemmas.Iterator.Search.{true_from_All}
pub use Rattle.std.proofs.lemmas.List.{get_or-map, length-map, map_more, map_push, take_all, take_more, with_items_is}
pub use Rattle.std.proofs.lemmas.List.Elements.{All-cons, All-get_or, All-head, All-map, All-nil, All-push, All-tail}
pub use Rattle.std.specs.Borrow.{Bor}
pub use Rattle.std.specs.List.{AllWithin, HoldsAt}
pub use Rattle.std.specs.Prelude.{All, IsTrue, MatchBool, MatchOption, bytes_eq, option_copied}
