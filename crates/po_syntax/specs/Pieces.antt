-- Where a piece of a text ends: before a line with which an entry begins anew, and after a translation
-- or, where the piece is long, after a comment (manual, "The Format of PO Files").
use Rattle.std.specs.Prelude.{◌≢◌, ℕ, List, All, IsUtf8, ◌≡◌, ◌+◌, ◌^◌, ◌≤◌, [], length, take, drop, sum_by, Option, Some, None, ◌⊎◌, ◌<◌, ◌∷◌}
use Rattle.std.specs.Borrow.{Bor}
use Rattle.po_syntax.specs.PoText.{IsSmall, SpellsLines, TextFault, lines_of, without_byte_order_mark}
use Rattle.po_syntax.specs.Item.{TextItem, Comment, Word, Str}
use Rattle.po_syntax.specs.declared.fault.PoFault.{PoFault}
use Rattle.po_syntax.specs.Line.{HoldsItems}
use Rattle.po_syntax.specs.declared.item.Keyword.TheVariants.{MsgStr, MsgStrAt}

-- A line as it stands in a text: UTF-8 without NUL and LF (manual, "The Format of PO Files").

-- UTF-8 on one line, without NUL
pub record IsCleanLine (line : List ℕ) : Type 0 where
  pub utf8 : IsUtf8 line
  pub no_nul : All (λ b. b ≢ 0) line
  pub one_line : All (λ b. b ≢ 10) line

-- The lines of a text that are left to be read, for a text that is read in pieces (manual, "The
-- Format of PO Files").

-- the text, the lines of it that are left, and the number of the first of them
pub record LinesLeft : Type 0 where
  pub text : List ℕ
  pub number : ℕ
  pub lines : List (List ℕ)

-- all lines of a text, which stand after its byte order mark, if it has one
abbrev pub all_lines : List ℕ → LinesLeft
all_lines text = record { text = text; number = 1; lines = lines_of (without_byte_order_mark text) }

-- the lines that are left are UTF-8 without NUL, and spell these items
abbrev pub SpellsLeft : LinesLeft → List TextItem → Type 0
SpellsLeft left items = All IsCleanLine left.lines × SpellsLines left.number left.lines items

-- what is left can't be read, as its text has this first fault
abbrev pub LeftStops : LinesLeft → PoFault → ℕ → Type 0
LeftStops left fault at = TextFault left.text fault at

-- what is left after so many of the lines
abbrev pub left_after : LinesLeft → ℕ → LinesLeft
left_after left count = record { text = left.text; number = left.number + count; lines = drop count left.lines }

-- how many bytes lines have, each with its LF
abbrev pub lines_len : List (List ℕ) → ℕ
lines_len lines = sum_by (λ (line : List ℕ). length line + 1) lines

-- the lines of the text that is left; none where nothing is left, not even an empty last line
abbrev pub lines_of_rest : Option (Bor (List ℕ)) → List (List ℕ)
lines_of_rest None = []
lines_of_rest (Some rest) = lines_of rest.now

-- The lines are left of a text of at most 2,147,483,647 bytes, after some that are UTF-8 without NUL
-- and spell items.
pub record AreOfText (left : LinesLeft) : Type 0 where
  pub small : IsSmall left.text
  pub count : ℕ
  pub within : count ≤ length (all_lines left.text).lines
  pub rest : left ≡ left_after (all_lines left.text) count
  pub clean : All IsCleanLine (take count (all_lines left.text).lines)
  pub items : List TextItem
  pub spelt : SpellsLines 1 (take count (all_lines left.text).lines) items

-- a quoted string
abbrev pub IsString : TextItem → Type 0
IsString (Comment kind text line) = ⊥
IsString (Word keyword marks line) = ⊥
IsString (Str bytes marks line) = Unit {0}

-- `msgstr` or `msgstr[i]`
abbrev pub IsTranslationWord : TextItem → Type 0
IsTranslationWord (Word MsgStr marks line) = Unit {0}
IsTranslationWord (Word (MsgStrAt index) marks line) = Unit {0}
IsTranslationWord item = ⊥

-- `msgstr` or `msgstr[i]`, and then strings alone, at least one
abbrev pub IsTranslation : List TextItem → Type 0
IsTranslation [] = ⊥
IsTranslation (word ∷ strings) = IsTranslationWord word × (strings ≢ []) × All IsString strings

-- from some item on, the items are such a translation
abbrev pub EndsTranslation : List TextItem → Type 0
EndsTranslation items = (before : ℕ) × IsTranslation (drop before items)

-- a comment
abbrev pub IsCommentItem : TextItem → Type 0
IsCommentItem (Comment kind text line) = Unit {0}
IsCommentItem (Word keyword marks line) = ⊥
IsCommentItem (Str bytes marks line) = ⊥

-- the last item is a comment
abbrev pub EndsInComment : List TextItem → Type 0
EndsInComment [] = ⊥
EndsInComment (item ∷ []) = IsCommentItem item
EndsInComment (item ∷ next ∷ items) = EndsInComment (next ∷ items)

-- what a piece of so many bytes can end with: a translation; or a comment, if it is a long piece
abbrev pub EndsPiece : ℕ → List TextItem → Type 0
EndsPiece len items = EndsTranslation items ⊎ ((2 ^ 16 ≤ len) × EndsInComment items)

-- an item with which no entry goes on after its last string: neither a string nor `msgstr[i]`
abbrev pub IsNew : TextItem → Type 0
IsNew (Word (MsgStrAt index) marks line) = ⊥
IsNew (Str bytes marks line) = ⊥
IsNew item = Unit {0}

-- there is a first item, and it is such an item
abbrev pub BeginsAnew : List TextItem → Type 0
BeginsAnew [] = ⊥
BeginsAnew (item ∷ items) = IsNew item

-- there is a first line, and what it spells begins so
abbrev pub LineBeginsAnew : ℕ → List (List ℕ) → Type 0
LineBeginsAnew number [] = ⊥
LineBeginsAnew number (line ∷ lines) = (here : List TextItem) × HoldsItems number line here × BeginsAnew here

-- A piece of at least this many bytes can end after so many of the lines that are left: with what these
-- spell a piece of their length can end, and the line after them begins anew.
pub record CanEnd (size : ℕ) (left : LinesLeft) (count : ℕ) : Type 0 where
  pub large : size ≤ lines_len (take count left.lines)
  pub items : List TextItem
  pub spelt : SpellsLines left.number (take count left.lines) items
  pub ends : EndsPiece (lines_len (take count left.lines)) items
  pub anew : LineBeginsAnew (left.number + count) (drop count left.lines)

-- from `old` so many lines were read, which have these items, `new` is left, and after fewer lines no
-- piece of at least `size` bytes could end
pub record HasRead (size : ℕ) (old new : LinesLeft) (items : List TextItem) : Type 0 where
  pub count : ℕ
  pub within : count ≤ length old.lines
  pub rest : new ≡ left_after old count
  pub spelt : SpellsLines old.number (take count old.lines) items
  pub fewest : (fewer : ℕ) → fewer < count → CanEnd size old fewer → ⊥

-- From `old` a piece was read that has these items, and `new` is left: the piece is the fewest
-- lines after which it can end, or all of them where it can't. They are UTF-8 without NUL.
pub record IsPiece (size : ℕ) (old new : LinesLeft) (items : List TextItem) : Type 0 where
  pub read : HasRead size old new items
  pub clean : All IsCleanLine (take read.count old.lines)
  pub ends : (new.lines ≡ []) ⊎ CanEnd size old read.count

-- the last item, where there is one, is a quoted string
abbrev pub EndsInString : List TextItem → Type 0
EndsInString [] = Unit {0}
EndsInString (item ∷ []) = IsString item
EndsInString (item ∷ next ∷ items) = EndsInString (next ∷ items)

-- whatever these lines spell begins anew, if they spell an item
abbrev pub LeftAnew : LinesLeft → Type 0
LeftAnew left = (item : TextItem) (items : List TextItem) → SpellsLeft left (item ∷ items) → IsNew item
