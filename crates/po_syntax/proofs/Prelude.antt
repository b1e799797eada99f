-- What the proofs of this crate cite of std, of the crates below and of its own definitions. Declares nothing.
pub use Rattle.memchr.specs.Find.{IsFirstByte, is_byte, is_byte2}
pub use Rattle.po_syntax.specs.Escape.{closed, escape, hexadecimal, letter, octal, plain}
pub use Rattle.po_syntax.specs.Facts.Once.{Once, same}
pub use Rattle.po_syntax.specs.Facts.Runs.{end_parts, kept_is, parts_of, run_length}
pub use Rattle.po_syntax.specs.Internal.{AddsLent, Byte, CommentLine, End, KeywordToken, LineEnd, NoShape, OpeningQuote, Shape, Step, Stop, Token, Tokens, WrongToken, after_first_word, bracket_token, close_token, comment_shape, digit_count, first_word, letter_step, number_step, numbered, shape_of, shape_view, token_at, word_token}
unfoldable pub use Rattle.po_syntax.specs.Internal.{escape_at, first_shape, first_token, hash_shape, index_token, keyword_token, obsolete_shape, step_at, tilde_shape}
pub use Rattle.po_syntax.specs.Internal.PieceEnd.{IsCut}
pub use Rattle.po_syntax.specs.Item.{Comment, Str, Word}
pub use Rattle.po_syntax.specs.Line.{blank, comment, end, extracted, flags, indented, keyword, live, obsolete, obsolete_comment, obsolete_previous, previous, reference, string, translator}
pub use Rattle.po_syntax.specs.LineFaults.{after_escape, after_plain, at_end, hexadecimal_digits, in_escape, in_index, in_keyword, large, large_index, no_digit, no_escape, no_index, no_keyword, no_token, not_closed, not_closed_index, obsolete_again, previous_again}
pub use Rattle.po_syntax.specs.PoText.{not_utf8, nul, stops, too_large}
pub use Rattle.po_syntax.specs.Prelude.{AreOfText, BeginsAnew, BeginsLine, BeginsTokens, CanEnd, EndsInComment, EndsInString, EndsPiece, EndsTranslation, EscapeFault, FailsFirst, HasFaultOnLine, HasFeeds, HasLine, HasRead, HoldsItems, HoldsText, HoldsTokens, IndexFault, IsBlank, IsByteNumber, IsCleanLine, IsCommentItem, IsCommentOf, IsFaultOf, IsNew, IsNoKeyword, IsOnItsLine, IsPiece, IsSmall, IsString, IsText, IsTranslation, IsTranslationWord, ItemsAreOnTheirLines, KeywordFault, LeftAnew, LeftStops, LendsUtf8, LineBeginsAnew, LineFault, LinesLeft, LinesStop, MarkIsOmitted, NoDigitFirst, NumberFault, OfString, SpellsComment, SpellsEscape, SpellsKeyword, SpellsLeft, SpellsLines, SpellsString, SpellsText, StringFault, TextFault, TextItem, TokensFault, WritesByte, WritesQuoted, WritesString, all_lines, escape_letter, escape_letters, is_blank, is_control, is_mark, is_raw, is_word_byte, letter_value, line_number, line_of, lines_len, lines_of, lines_of_rest, marked_text, octal_escape, own_marks, owns_utf8, previous_marks, quoted, skip_blanks, spelt_bytes, trim_returns, view, views, without_byte_order_mark, without_end, written_bytes}
unfoldable pub use Rattle.po_syntax.specs.Prelude.{written_byte}
pub use Rattle.po_syntax.specs.Quoting.{byte, closing_quote, control, delete}
pub use Rattle.po_syntax.specs.Token.{form, msgctxt, msgid, msgid_plural, msgstr}
pub use Rattle.po_syntax.specs.declared.fault.PoError.{PoError}
pub use Rattle.po_syntax.specs.declared.fault.PoFault.{PoFault}
pub use Rattle.po_syntax.specs.declared.fault.PoFault.TheVariants.{BadEscape, BadPluralIndex, BadToken, ForbiddenByte, NotUtf8, OutOfMemory, TooLarge, UnterminatedString}
pub use Rattle.po_syntax.specs.declared.item.CommentKind.{CommentKind}
pub use Rattle.po_syntax.specs.declared.item.Item.{Item}
pub use Rattle.po_syntax.specs.declared.item.Keyword.{Keyword}
pub use Rattle.po_syntax.specs.declared.item.Marks.{Marks}
pub use Rattle.std.proofs.Common.{All, Bool, Contains, Err, IsUtf8, List, None, Ok, Option, Result, Some, [], ap, append-nil, append_assoc, ap₂, arith, bytes_eq, codes, cond, drop, false, find, get_or, if◌then◌else◌, inl, inr, length, length-append, length-drop, nat_eq, nat_lt, not, option_map, position, refl, rules, subst, suc, sym, take, tests, true, unwrap_or, zero, ℕ, ◌%◌, ◌&&◌, ◌*◌, ◌++◌, ◌+◌, ◌-◌, ◌/◌, ◌<◌, ◌==◌, ◌^◌, ◌||◌, ◌↔◌, ◌∙◌, ◌∷◌, ◌≡◌, ◌≢◌, ◌≤◌, ◌⊎◌}
pub use Rattle.std.proofs.Math.Numerals.{one-add}
pub use Rattle.std.proofs.Math.Seq.{drop-append_seam, drop-cons, take-append-add, take-append_seam}
pub use Rattle.std.proofs.lemmas.Bool.{and_parts, both_ways, cases_lt, cond-false, cond-true, cond_both, eqb-false, eqb-true, false_from_ne_true, false≢true, le-ltb, lt-ltb, ltb-false, ltb-true, ne_eqb, not-true, or_from, or_parts}
pub use Rattle.std.proofs.lemmas.Bool.Decides.{nat_tests}
pub use Rattle.std.proofs.lemmas.Grind.{flat_map-append, get_or_default_zero}
pub use Rattle.std.proofs.lemmas.Iterator.{YieldsList-from_slice}
pub use Rattle.std.proofs.lemmas.Iterator.Consumers.{count_from_yields_List}
pub use Rattle.std.proofs.lemmas.Iterator.Search.{YieldsList-from_take_while, all_from_yields_List}
pub use Rattle.std.proofs.lemmas.List.{drop-drop, drop-take, drop_all, get_or-take, length-map, length-take, length_push, map_push, take-append-drop, take-take, take_all, take_min, take_more}
pub use Rattle.std.proofs.lemmas.List.Elements.{All-append, All-cons, All-contains_itself, All-drop, All-head, All-nil, All-push, All-tail, All-take}
pub use Rattle.std.proofs.lemmas.List.Folds.{length-prefix_len}
pub use Rattle.std.proofs.lemmas.List.Quantifiers.{position-Some}
pub use Rattle.std.proofs.lemmas.List.Splits.{length-slice_split, slice_split-cons_no, slice_split_first, slice_split_none}
pub use Rattle.std.proofs.lemmas.List.Sums.{AllPass-from_list_all, position_or_len_is, prefix_len-le-length, prefix_len_passes, sum_by-cons, sum_by-take-drop, sum_by-take-le}
pub use Rattle.std.proofs.lemmas.Result.{IfErr-weaker, IfOk-weaker, err_from_is_err_and, on_ok_weaker}
pub use Rattle.std.proofs.lemmas.Slice.Eq.{bytes_eq-Decides}
pub use Rattle.std.proofs.lemmas.Str.{IsCharBoundary-after_ascii, IsCharBoundary-before_ascii, IsUtf8-append, IsUtf8-drop, IsUtf8-from_ascii, IsUtf8-from_is_utf8, IsUtf8-nil, IsUtf8-past_char, IsUtf8-take, digit_value-digit_char, encode_ascii, inside_one, is_utf8-from_IsUtf8, utf8_valid_len_le}
pub use Rattle.std.proofs.lemmas.Str.Ascii.{IsAscii-cons, IsAscii-nil}
pub use Rattle.std.specs.Borrow.{Bor}
pub use Rattle.std.specs.Char.{digit_char, digit_value, is_digit}
pub use Rattle.std.specs.List.{count_by, list_all, onto_first, position_or_len, prefix_len, starts_with, suffix_len}
pub use Rattle.std.specs.Prelude.{IfErr, IfOk, IsSome, IsTrue, MatchOption, is_some, reverse, slice_get}
pub use Rattle.std.specs.Str.{IsAscii, is_utf8}
pub use Rattle.std.specs.Str.Lossy.{utf8_valid_len}
pub use Rattle.std.specs.Str.Parse.{AllDigits, IsNumeral, digits_value}
