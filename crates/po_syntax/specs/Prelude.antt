-- What contracts and proofs cite of the definitions of this crate. Declares nothing.
pub use Rattle.po_syntax.specs.Item.{HoldsText, IsComment, IsCommentOf, IsText, OfString, TextItem, line_of, spelt_bytes, trim_returns, view, views, own_marks, previous_marks, LendsUtf8, LentAreUtf8, owns_utf8}
pub use Rattle.po_syntax.specs.Escape.{IsByteNumber, NoDigitFirst, SpellsEscape, SpellsString, escape_letter, escape_letters, letter_value}
pub use Rattle.po_syntax.specs.Line.{HoldsItems, HoldsTokens, SpellsComment, is_mark}
pub use Rattle.po_syntax.specs.Token.{SpellsKeyword, is_word_byte, FailsFirst, IsBlank, is_blank, skip_blanks, without_end}
pub use Rattle.po_syntax.specs.LineFaults.{BeginsTokens, EscapeFault, IndexFault, IsNoKeyword, KeywordFault, LineFault, NumberFault, StringFault, TokensFault}
pub use Rattle.po_syntax.specs.PoText.{IsSmall, LinesStop, SpellsLines, SpellsText, TextFault, line_number, lines_of, without_byte_order_mark, IsFaultOf}
pub use Rattle.po_syntax.specs.Pieces.{AreOfText, BeginsAnew, CanEnd, EndsInString, EndsTranslation, HasRead, IsCleanLine, IsNew, IsPiece, IsString, IsTranslation, IsTranslationWord, LeftAnew, LeftStops, LineBeginsAnew, LinesLeft, SpellsLeft, all_lines, lines_len, lines_of_rest, EndsInComment, EndsPiece, IsCommentItem}
pub use Rattle.po_syntax.specs.Quoting.{WritesByte, WritesQuoted, WritesString, is_control, is_raw, lettered_bytes, lettered_text, octal_escape, quoted, written_bytes}
unfoldable pub use Rattle.po_syntax.specs.Quoting.{written_byte}
pub use Rattle.po_syntax.specs.Laws.{BeginsLine, HasFaultOnLine, HasFeeds, HasLine, IsOnItsLine, ItemsAreOnTheirLines, MarkIsOmitted, marked_text}
