-- What the definitions of this crate say of texts that were read by hand (manual, "The Format of PO
-- Files"). tests/mutants/po_syntax/definitions has a wrong form of each, which one of these refuses.
use Rattle.std.specs.Prelude.{◌≡◌, ◌≢◌, refl, ℕ, true, false, List, [], ◌∷◌, ◌++◌, All, Some, codes, filter, map, length, IsUtf8}
use Rattle.std.specs.Char.{encode_utf8}
use Rattle.std.specs.List.{range_with_len}
use Rattle.std.proofs.Common.{arith, inl, inr, true≢false}
use Rattle.std.proofs.lemmas.List.Elements.{All-cons, All-nil}
use Rattle.po_syntax.specs.declared.fault.PoFault.TheVariants.{BadEscape, BadPluralIndex, ForbiddenByte}
use Rattle.po_syntax.specs.declared.item.CommentKind.TheVariants.{Translator, Extracted}
use Rattle.po_syntax.specs.declared.item.Keyword.TheVariants.{MsgId, MsgStrAt}
use Rattle.po_syntax.specs.Token.{is_blank, IsBlank, skip_blanks, FailsFirst, without_end, is_word_byte, SpellsKeyword, msgid, form}
use Rattle.po_syntax.specs.Item.{TextItem, Comment, Word, Str, line_of, trim_returns, own_marks, previous_marks}
use Rattle.po_syntax.specs.Escape.{NoDigitFirst, IsByteNumber, escape_letters, letter_value, SpellsEscape, letter, octal, SpellsString, closed, plain, escape}
use Rattle.po_syntax.specs.Line.{HoldsTokens, end, blank, keyword, string, is_mark, SpellsComment, extracted, translator, HoldsItems, indented, comment, live, obsolete}
use Rattle.po_syntax.specs.LineFaults.{large, octal as octal_fault, in_escape, IsNoKeyword, large_index, KeywordFault, in_index, blank as blank_first, in_string, after_keyword, BeginsTokens, live as live_fault}
use Rattle.po_syntax.specs.Quoting.{quoted, written_byte}
use Rattle.po_syntax.specs.Facts.LinesWithEnds.{lines_with_ends}
use Rattle.po_syntax.specs.PoText.{IsSmall, without_byte_order_mark, lines_of, SpellsLines, LinesStop, SpellsText, TextFault, nul}

pub space_is_blank : IsBlank 32
space_is_blank = refl

-- a text that begins with a letter fails a test for blanks first, as does the empty one
pub letter_fails_first : FailsFirst is_blank (codes "a ")
letter_fails_first = refl

pub eight_is_no_octal_digit : NoDigitFirst 8 (codes "81")
eight_is_no_octal_digit = refl

pub highest_byte : IsByteNumber 255
highest_byte = (omega arith, omega arith)

pub letters_are_escaped : (map (λ p. p.1) escape_letters ≡ 7 ∷ 8 ∷ 9 ∷ 10 ∷ 11 ∷ 12 ∷ 13 ∷ 92 ∷ 34 ∷ [])
    × (letter_value 110 ≡ Some 10)
letters_are_escaped = (refl, refl)

-- `\1012` is A and a 2: an escape takes three octal digits at most
pub octal_escape_of_three : SpellsEscape (codes "1012") 65 (codes "2")
octal_escape_of_three = octal (codes "101") (omega arith, (omega arith, (omega arith, (omega arith, tt)))) (omega arith)
    (inl refl) (omega arith, omega arith)

-- `a\n"`, and what follows the closing quote
pub string_with_escape : SpellsString (codes "a\\n\" b") (97 ∷ 10 ∷ []) (codes " b")
string_with_escape = plain (λ e. omega (arith, e)) (λ e. omega (arith, e)) (escape (letter refl) closed)

abbrev pub items_have_lines : List TextItem
items_have_lines =
    Comment Extracted (codes " for a menu") 1 ∷ Word MsgId (own_marks false) 2 ∷ Str (codes "a") (own_marks false) 2
    ∷ []

one_blank : All IsBlank (32 ∷ [])
one_blank = All-cons IsBlank 32 [] refl (All-nil IsBlank)

-- an index of two digits in brackets, with a blank before it
pub keyword_with_index : SpellsKeyword (codes "msgstr [ 01] \"\"") (MsgStrAt 1) (codes " \"\"")
keyword_with_index =
    form (32 ∷ []) (32 ∷ []) (codes "01") [] one_blank one_blank (omega arith, (omega arith, (omega arith, tt)))
    (omega arith) (All-nil IsBlank)

pub two_strings : HoldsTokens (own_marks false) 4 (codes "\"\" \"\"")
    (Str [] (own_marks false) 4 ∷ Str [] (own_marks false) 4 ∷ [])
two_strings = string closed (blank refl (string closed end))

-- of all bytes the blanks, those of words, and the marks
pub tests_of_bytes : (filter is_blank (range_with_len 0 256) ≡ 9 ∷ 11 ∷ 12 ∷ 13 ∷ 32 ∷ [])
    × (filter is_word_byte (range_with_len 0 256)
    ≡ codes "0123456789ABCDEFGHIJKLMNOPQRSTUVWXYZ_abcdefghijklmnopqrstuvwxyz")
    × (filter is_mark (range_with_len 0 256) ≡ 44 ∷ 46 ∷ 58 ∷ 124 ∷ 126 ∷ [])
tests_of_bytes = (refl, refl, refl)

pub extracted_comment : SpellsComment (codes ". a menu") Extracted (codes " a menu")
extracted_comment = extracted

pub marks_of_lines : (own_marks true ≡ record { obsolete = true; previous = false })
    × (previous_marks false ≡ record { obsolete = false; previous = true })
marks_of_lines = (refl, refl)

pub obsolete_line : HoldsItems 3 (codes " #~ msgid \"a\"")
    (Word MsgId (own_marks true) 3 ∷ Str (codes "a") (own_marks true) 3 ∷ [])
obsolete_line =
    indented refl (obsolete (blank refl (keyword (msgid refl) (
    blank refl (string (plain (λ e. omega (arith, e)) (λ e. omega (arith, e)) closed) end)))))

pub longest_text : (text : List ℕ) → length text ≡ 2147483647 → IsSmall text
longest_text text is = omega (arith, is)

pub texts_are_cut : (skip_blanks (codes "\t a b ") ≡ codes "a b ")
    × (without_end is_blank (codes " a b \t") ≡ codes " a b")
    × (trim_returns (codes "a\r b \r\r") ≡ codes "a\r b ")
    × (without_byte_order_mark (0xEF ∷ 0xBB ∷ 0xBF ∷ codes "#") ≡ codes "#")
    × (lines_of (codes "a\n\r\nb\n") ≡ codes "a" ∷ codes "\r" ∷ codes "b" ∷ [] ∷ [])
texts_are_cut = (refl, refl, refl, refl, refl)

pub two_comments : SpellsLines 1 (codes "#. a" ∷ codes "# b" ∷ [])
    (Comment Extracted (codes " a") 1 ∷ Comment Translator (codes " b") 2 ∷ [])
two_comments = (
  Comment Extracted (codes " a") 1 ∷ [],
  Comment Translator (codes " b") 2 ∷ [],
  comment extracted,
  (Comment Translator (codes " b") 2 ∷ [], [], comment (translator refl), refl, refl),
  refl,
)

comment_is_utf8 : IsUtf8 (codes "#.\n")
unfolding encode_utf8
comment_is_utf8 = (codes "#.\n", (refl, refl))

-- a line has items, and the file ends after it
pub one_comment : SpellsText (codes "#.\n") (Comment Extracted [] 1 ∷ [])
one_comment = record {
  small = omega arith;
  utf8 = comment_is_utf8;
  no_nul =
      All-cons (λ b. b ≢ 0) 35 (codes ".\n") (λ e. omega (arith, e))
      (All-cons (λ b. b ≢ 0) 46 (codes "\n") (λ e. omega (arith, e)) (
      All-cons (λ b. b ≢ 0) 10 [] (λ e. omega (arith, e)) (All-nil (λ b. b ≢ 0))));
  lines = (Comment Extracted [] 1 ∷ [], [], comment extracted, ([], [], live end, refl, refl), refl);
}

pub lines_of_items : map line_of items_have_lines ≡ 1 ∷ 2 ∷ 2 ∷ []
lines_of_items = refl

-- after an empty line `msgid "\400"`, whose octal escape is the number 256
pub escape_above_255 : LinesStop 1 ([] ∷ codes "msgid \"\\400\"" ∷ []) BadEscape 2
escape_above_255 =
    inr (
      [],
      live end,
      inl (
        live_fault refl (after_keyword (msgid refl) (blank_first refl (in_string (in_escape (
            octal_fault (codes "400") (codes "\"") (omega arith, (omega arith, (omega arith, (omega arith, tt))))
            (omega arith)
            (inl refl) (large (omega arith))))))),
        refl,
      ),
    )

-- `#` begins a comment, or is followed by a mark
pub comment_begins_no_tokens : BeginsTokens (codes "# a") → ⊥
comment_begins_no_tokens begins = true≢false begins

pub keywords_are : (IsNoKeyword (codes "msgctxt") → ⊥) × (IsNoKeyword (codes "msgid") → ⊥)
    × (IsNoKeyword (codes "msgid_plural") → ⊥) × (IsNoKeyword (codes "msgstr") → ⊥)
keywords_are = ((λ no. no.context refl), (λ no. no.id refl), (λ no. no.plural refl), (λ no. no.translation refl))

-- the lowest index that is refused, with blanks before it
pub index_above_2_32 : KeywordFault (codes "msgstr [ 4294967296]") BadPluralIndex
index_above_2_32 =
    in_index (32 ∷ []) (32 ∷ []) (codes "4294967296]") one_blank one_blank (
    large_index (codes "4294967296") (codes "]") (
      omega arith,
      (
        omega arith,
        (
          omega arith,
          (
            omega arith,
            (
              omega arith,
              (omega arith, (omega arith, (omega arith, (omega arith, (omega arith, (omega arith, tt)))))),
            ),
          ),
        ),
      ),
    ) refl
    (omega arith))

pub nul_on_line_2 : IsUtf8 (10 ∷ 0 ∷ []) → TextFault (10 ∷ 0 ∷ []) ForbiddenByte 2
nul_on_line_2 utf8 = nul (omega arith) utf8 refl refl

pub bytes_are_quoted : quoted (codes "a\"\n" ++ 1 ∷ 127 ∷ 195 ∷ [])
    ≡ codes "\"a\\\"\\n\\001\\177" ++ 195 ∷ 34 ∷ []
unfolding written_byte
bytes_are_quoted = refl

pub lines_keep_their_ends : lines_with_ends (codes "a\n\nb") ≡ codes "a\n" ∷ codes "\n" ∷ codes "b" ∷ []
lines_keep_their_ends = refl
