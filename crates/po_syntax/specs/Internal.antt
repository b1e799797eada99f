-- What private functions, proofs and laws cite; no clause of a public function does. This is how a
-- line, its tokens and its strings are read, step by step; `Escape`, `Token` and `Line` have what spells
-- them, with a case for each form, and `LineFaults` their first faults (manual, "The Format of PO Files").
pub mod PieceEnd
use Rattle.std.specs.Prelude.{ℕ, ◌==◌, nat_lt, if◌then◌else◌, List, [], ◌∷◌, take, drop, Option, Some, None, ◌^◌, codes, bytes_eq, true, false, ◌≡◌, ◌++◌, All, IsUtf8, Result, MatchOption, MatchResult}
use Rattle.std.specs.List.{prefix_len}
use Rattle.std.specs.Char.{is_digit}
use Rattle.std.specs.Str.Parse.{digits_value}
use Rattle.po_syntax.specs.Escape.{letter_value}
use Rattle.po_syntax.specs.declared.fault.PoFault.{PoFault}
use Rattle.po_syntax.specs.declared.fault.PoFault.TheVariants.{UnterminatedString, BadEscape, ForbiddenByte, BadToken, BadPluralIndex}
use Rattle.po_syntax.specs.declared.item.Keyword.{Keyword}
use Rattle.po_syntax.specs.declared.item.Keyword.TheVariants.{MsgCtxt, MsgId, MsgIdPlural, MsgStr, MsgStrAt}
use Rattle.po_syntax.specs.Token.{skip_blanks, is_word_byte}
use Rattle.po_syntax.specs.declared.item.CommentKind.{CommentKind}
use Rattle.po_syntax.specs.declared.item.CommentKind.TheVariants.{Translator, Extracted, Reference, Flags}
use Rattle.po_syntax.specs.declared.item.Marks.{Marks}
use Rattle.std.specs.Borrow.{Bor}
use Rattle.po_syntax.specs.declared.item.Item.{Item}
use Rattle.po_syntax.specs.declared.line.Shape.{Shape as CodeShape}
use Rattle.po_syntax.specs.declared.line.Shape.TheVariants as shape
use Rattle.po_syntax.specs.Item.{LendsUtf8, TextItem, views}

-- A string between double quotes, with the escapes of C but for `\'`, `\?` and `\u`. A text here is what is
-- left of a line, so that its end is the line's end.

-- One step inside a quoted string: its end, with the text after it; a byte, with the text after
-- what spells it; or a fault.
pub data Step : Type 0 where
  End : List ℕ → Step
  Byte : ℕ → List ℕ → Step
  Stop : PoFault → Step

-- how many digits of a base the text begins with; those of 16 are in upper or lower case
abbrev pub digit_count : ℕ → List ℕ → ℕ
digit_count base text = prefix_len (λ b. is_digit b base) text

-- the byte with a number, and the text after it: NUL is forbidden, and above 255 there is none
abbrev pub numbered : ℕ → List ℕ → Step
numbered number rest =
    if number == 0 then Stop ForbiddenByte
    else if nat_lt number 256 then Byte number rest
    else Stop BadEscape

-- the byte whose number the first `count` bytes of the text stand for, all of them digits
abbrev pub number_step : ℕ → ℕ → List ℕ → Step
number_step base count text = numbered (digits_value base (take count text)) (drop count text)

-- the byte of a letter; after any other character the escape is a bad one
abbrev pub letter_step : Option ℕ → List ℕ → Step
letter_step None rest = Stop BadEscape
letter_step (Some byte) rest = Byte byte rest

-- What stands after a backslash: octal digits, as many as stand there, up to three; `x` (120) and
-- hex digits, all that stand there, at least one; or a letter. At the line's end there is no
-- escape.
unfoldable pub escape_at : List ℕ → Step
escape_at [] = Stop BadEscape
escape_at (b ∷ text) =
    if is_digit b 8 then number_step 8 (digit_count 8 (take 3 (b ∷ text))) (b ∷ text)
    else if b == 120
    then (if digit_count 16 text == 0 then Stop BadEscape else number_step 16 (digit_count 16 text) text)
    else letter_step (letter_value b) text

-- Any byte but the closing quote (34) and the backslash (92) stands for itself. At the line's end
-- the string isn't closed.
unfoldable pub step_at : List ℕ → Step
step_at [] = Stop UnterminatedString
step_at (b ∷ text) = if b == 34 then End text else if b == 92 then escape_at text else Byte b text

-- The tokens of a line: keywords, with the index of a plural form, and opening quotes.

-- The next token of a line: none, at its end; an opening quote or a keyword, with the text after
-- it; or a fault.
pub data Token : Type 0 where
  LineEnd : Token
  OpeningQuote : List ℕ → Token
  KeywordToken : Keyword → List ℕ → Token
  WrongToken : PoFault → Token

-- after an index and blanks: the closing bracket (93)
abbrev pub close_token : ℕ → List ℕ → Token
close_token index [] = WrongToken BadToken
close_token index (b ∷ rest) = if b == 93 then KeywordToken (MsgStrAt index) rest else WrongToken BadToken

-- after an opening bracket and blanks: decimal digits, blanks and the closing bracket; a number of
-- 2^32 or more is a wrong index, whether the bracket is there or not
unfoldable pub index_token : List ℕ → Token
index_token text =
    let count = digit_count 10 text in
    let index = digits_value 10 (take count text) in
    if count == 0 then WrongToken BadToken
    else if nat_lt index (2 ^ 32) then close_token index (skip_blanks (drop count text))
    else WrongToken BadPluralIndex

-- `msgstr` alone, with `rest` after it; or with an index, where an opening bracket (91) is the
-- first byte of `rest` after blanks, which is the second text
abbrev pub bracket_token : List ℕ → List ℕ → Token
bracket_token rest [] = KeywordToken MsgStr rest
bracket_token rest (b ∷ inside) = if b == 91 then index_token (skip_blanks inside) else KeywordToken MsgStr rest

-- a word, with the text after it: it has to be a keyword, in lower case
unfoldable pub keyword_token : List ℕ → List ℕ → Token
keyword_token word rest =
    if bytes_eq word (codes "msgctxt") then KeywordToken MsgCtxt rest
    else if bytes_eq word (codes "msgid") then KeywordToken MsgId rest
    else if bytes_eq word (codes "msgid_plural") then KeywordToken MsgIdPlural rest
    else if bytes_eq word (codes "msgstr") then bracket_token rest (skip_blanks rest)
    else WrongToken BadToken

-- the word at the start of the text is the longest run of bytes of a word
abbrev pub first_word : List ℕ → List ℕ
first_word text = take (prefix_len is_word_byte text) text

-- what stands after it
abbrev pub after_first_word : List ℕ → List ℕ
after_first_word text = drop (prefix_len is_word_byte text) text

abbrev pub word_token : List ℕ → Token
word_token text = keyword_token (first_word text) (after_first_word text)

-- the token that the text begins with: a quote (34) opens a string, and a byte that is neither a
-- quote nor one of a word begins none, as `#`
unfoldable pub first_token : List ℕ → Token
first_token [] = LineEnd
first_token (b ∷ rest) =
    if b == 34 then OpeningQuote rest
    else if is_word_byte b then word_token (b ∷ rest)
    else WrongToken BadToken

-- blanks may stand before a token
abbrev pub token_at : List ℕ → Token
token_at text = first_token (skip_blanks text)

-- The lines of a text: comments, and tokens under marks.

-- What a line is by its first bytes: a comment with its text; tokens under marks, with the text
-- that they are in; or neither.
pub data Shape : Type 0 where
  CommentLine : CommentKind → List ℕ → Shape
  Tokens : Marks → List ℕ → Shape
  NoShape : Shape

-- the comment after its `#`, by the next byte: `.` (46), `:` (58), `,` (44), or any other or none;
-- `#|` (124) and `#~` (126) begin none
abbrev pub comment_shape : List ℕ → Shape
comment_shape [] = CommentLine Translator []
comment_shape (b ∷ rest) =
    if b == 46 then CommentLine Extracted rest
    else if b == 58 then CommentLine Reference rest
    else if b == 44 then CommentLine Flags rest
    else if b == 124 then NoShape
    else if b == 126 then NoShape
    else CommentLine Translator (b ∷ rest)

-- after `#~` and blanks: a comment, which is the same with `#~` before it or without, or tokens
unfoldable pub obsolete_shape : List ℕ → Shape
obsolete_shape [] = Tokens (record { obsolete = true; previous = false }) []
obsolete_shape (b ∷ rest) =
    if b == 35 then comment_shape rest
    else Tokens (record { obsolete = true; previous = false }) (b ∷ rest)

-- after `#~`: the tokens of a previous text, where `|` is the next byte, or what may stand after
-- blanks
unfoldable pub tilde_shape : List ℕ → Shape
tilde_shape [] = obsolete_shape []
tilde_shape (b ∷ rest) =
    if b == 124 then Tokens (record { obsolete = true; previous = true }) rest
    else obsolete_shape (skip_blanks (b ∷ rest))

-- after `#`: the tokens of a previous text, what `#~` begins, or a comment
unfoldable pub hash_shape : List ℕ → Shape
hash_shape [] = comment_shape []
hash_shape (b ∷ rest) =
    if b == 124 then Tokens (record { obsolete = false; previous = true }) rest
    else if b == 126 then tilde_shape rest
    else comment_shape (b ∷ rest)

-- without blanks before it: what `#` (35) begins, or tokens without marks; an empty line is one of
-- no tokens
unfoldable pub first_shape : List ℕ → Shape
first_shape [] = Tokens (record { obsolete = false; previous = false }) []
first_shape (b ∷ rest) =
    if b == 35 then hash_shape rest
    else Tokens (record { obsolete = false; previous = false }) (b ∷ rest)

-- the shape of a line, before which blanks may stand
abbrev pub shape_of : List ℕ → Shape
shape_of line = first_shape (skip_blanks line)

-- What contracts see of what the code reads.

abbrev pub shape_view : CodeShape → Shape
shape_view (shape.Comment kind text) = CommentLine kind text.now
shape_view (shape.Tokens marks text) = Tokens marks text.now

-- the result is the byte of this step, with the text after it, or its fault
abbrev pub IsByteOf : Step → Result (ℕ × Bor (List ℕ)) PoFault → Type 0
IsByteOf step result = MatchResult result (λ p. step ≡ Byte p.0 p.1.now) (λ fault. step ≡ Stop fault)

-- the result is the keyword of this token, with the text after it, or its fault
abbrev pub IsKeywordOf : Token → Result (Keyword × Bor (List ℕ)) PoFault → Type 0
IsKeywordOf token result =
    MatchResult result (λ p. token ≡ KeywordToken p.0 p.1.now) (λ fault. token ≡ WrongToken fault)

-- the result is this shape, or none where the line has no shape
abbrev pub IsShapeOf : Shape → Option CodeShape → Type 0
IsShapeOf shape result =
    MatchOption result (shape ≡ NoShape) (λ read. shape ≡ shape_view read)

-- the new items are the old ones and then items that are spelt
abbrev pub AddsItems : (List TextItem → Type 0) → List Item → List Item → Type 0
AddsItems Spells old new = (spelt : List TextItem) × Spells spelt × (views new ≡ views old ++ spelt)

-- after the old items others stand; what these borrow is UTF-8 where the text is
abbrev pub AddsLent : List ℕ → List Item → List Item → Type 0
AddsLent text old new = (added : List Item) × (new ≡ old ++ added) × (IsUtf8 text → All LendsUtf8 added)
