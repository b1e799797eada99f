-- What the proofs of this crate cite of std, of the crates below and of its own definitions. Declares nothing.
pub use Rattle.command_line.specs.Internal.{argument_of}
pub use Rattle.command_line.specs.Prelude.{AddsArguments, Argument, IsRuleOf, IsToolCommand, IsToolShape, OffersTools, arguments_of, before_quote, offered, offered_tools, own_tip, reworded_line, single_spaced, spaced_line, takes_files, top_of, word_after}
pub use Rattle.po_syntax.specs.Facts.LinesWithEnds.{lines_are, lines_with_ends}
pub use Rattle.std.proofs.Common.{List, MatchOption, None, Option, Some, [], ap, append_assoc, arith, codes, cond, drop, false, get_or, length, length-append, length-take, lit<, map, nat_eq, ne_eqb, option_map, refl, rules, string_bytes, subst, suc, sym, take, take-append-drop, take_all, true, ℕ, ◌++◌, ◌+◌, ◌<◌, ◌==◌, ◌||◌, ◌∙◌, ◌∷◌, ◌≡◌, ◌≢◌}
pub use Rattle.std.proofs.Math.Seq.{take-append-add, take-length}
pub use Rattle.std.proofs.lemmas.List.{append_cancel_left, map-append, nil_from_length, take_more}
pub use Rattle.std.proofs.lemmas.Result.{IfOk-weaker}
pub use Rattle.std.proofs.lemmas.Str.Pattern.{IsSplitOnceResult, NoCharPasses-char, drop_at_char, split_once_first, starts_text}
pub use Rattle.std.specs.List.{AllZip, flat_map, onto_first, starts_with, zip}
pub use Rattle.std.specs.Option.{option_copied}
pub use Rattle.std.specs.Str.{IsCharBoundary, bytes_eq}
pub use Rattle.std.specs.Str.Iter.{split_inclusive_pattern, split_inclusive_text}
pub use Rattle.std.specs.Str.Pattern.{EndsAtFirstMatch, FindsChar, FindsTextPrefix, StripsPrefix}
