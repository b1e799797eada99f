-- What contracts see of an item of a PO text, its bytes being a list wherever they are kept; what items
-- hold; which of their bytes are UTF-8; and the marks of lines (manual, "The Format of PO Files").
use Rattle.std.specs.Prelude.{ℕ, List, map, ◌≡◌, ◌≢◌, ◌==◌, ◌∷◌, All, Contains, IsUtf8, codes, Bool, true, false}
use Rattle.po_syntax.specs.declared.item.CommentKind.{CommentKind}
use Rattle.po_syntax.specs.declared.item.Keyword.{Keyword}
use Rattle.po_syntax.specs.declared.item.Marks.{Marks}
use Rattle.po_syntax.specs.declared.item.SpeltBytes.{SpeltBytes}
use Rattle.po_syntax.specs.declared.item.SpeltBytes.TheVariants.{Plain, Escaped, Numbered}
use Rattle.po_syntax.specs.declared.item.Item.{Item}
use Rattle.po_syntax.specs.declared.item.Item.TheVariants as code
use Rattle.po_syntax.specs.declared.item.CommentKind.TheVariants.{Translator}
use Rattle.po_syntax.specs.Token.{without_end}
use Rattle.std.specs.Str.{is_utf8}

-- An item, with its line, counted from 1: a comment with its text, a keyword, or the bytes that a
-- quoted string spells. A comment is by its mark a translator's (`#`), extracted (`#.`), one with
-- references (`#:`) or one with flags (`#,`). The marks of a keyword and of a string say whether
-- their line is obsolete (`#~`, `#~|`) and whether it is one of a previous text (`#|`, `#~|`).
pub data TextItem : Type 0 where
  Comment : CommentKind → List ℕ → ℕ → TextItem
  Word : Keyword → Marks → ℕ → TextItem
  Str : List ℕ → Marks → ℕ → TextItem

-- the line of an item
abbrev pub line_of : TextItem → ℕ
line_of (Comment kind text line) = line
line_of (Word keyword marks line) = line
line_of (Str bytes marks line) = line

-- the bytes, wherever they are kept
abbrev pub spelt_bytes : SpeltBytes → List ℕ
spelt_bytes (Plain bytes) = bytes.now
spelt_bytes (Escaped bytes) = bytes.items
spelt_bytes (Numbered bytes) = bytes.items

-- what contracts see of the code's item
abbrev pub view : Item → TextItem
view (code.Comment kind text line) = Comment kind text.now line
view (code.Word keyword marks line) = Word keyword marks line
view (code.Str bytes marks line) = Str (spelt_bytes bytes) marks line

abbrev pub views : List Item → List TextItem
views items = map view items

-- the text without the CRs at its end; a CR inside, or before another blank, stays
abbrev pub trim_returns : List ℕ → List ℕ
trim_returns text = without_end (λ b. b == 13) text

-- a text that an entry may hold
pub record IsText (text : List ℕ) : Type 0 where
  pub utf8 : IsUtf8 text
  pub no_nul : All (λ b. b ≢ 0) text

-- the text of a comment is the rest of a line without CRs at its end
pub record IsComment (text : List ℕ) : Type 0 where
  pub valid : IsText text
  pub one_line : All (λ b. b ≢ 10) text
  pub no_final_return : trim_returns text ≡ text

-- A comment of this kind. A translator's begins with no character that marks another kind of line:
-- none of `.:,|~`.
pub record IsCommentOf (kind : CommentKind) (text : List ℕ) : Type 0 where
  pub comment : IsComment text
  pub plain : kind ≡ Translator → (b : ℕ) (rest : List ℕ) → text ≡ b ∷ rest → Contains (codes ".:,|~") b → ⊥

-- the text of a comment is one that its kind may have, and the bytes of a string hold no NUL
abbrev pub HoldsText : TextItem → Type 0
HoldsText (Comment kind text line) = IsCommentOf kind text
HoldsText (Word keyword marks line) = Unit {0}
HoldsText (Str bytes marks line) = All (λ b. b ≢ 0) bytes

-- this holds of the bytes of a string; nothing is said of other items
abbrev pub OfString : (List ℕ → Type 0) → TextItem → Type 0
OfString P (Comment kind text line) = Unit {0}
OfString P (Word keyword marks line) = Unit {0}
OfString P (Str bytes marks line) = P bytes

-- Bytes that are borrowed are UTF-8, and so are those with escapes of ASCII bytes. Of bytes with an
-- escape above 127 nothing is said, as it may spell a part of a character.
abbrev pub LentAreUtf8 : SpeltBytes → Type 0
LentAreUtf8 (Plain bytes) = IsUtf8 bytes.now
LentAreUtf8 (Escaped bytes) = IsUtf8 bytes.items
LentAreUtf8 (Numbered bytes) = Unit {0}

-- so are those of a string
abbrev pub LendsUtf8 : Item → Type 0
LendsUtf8 (code.Comment kind text line) = Unit {0}
LendsUtf8 (code.Word keyword marks line) = Unit {0}
LendsUtf8 (code.Str bytes marks line) = LentAreUtf8 bytes

-- whether the bytes of a string are UTF-8, if an escape above 127 stands among them
abbrev pub owns_utf8 : Item → Bool
owns_utf8 (code.Comment kind text line) = true
owns_utf8 (code.Word keyword marks line) = true
owns_utf8 (code.Str (Plain bytes) marks line) = true
owns_utf8 (code.Str (Escaped bytes) marks line) = true
owns_utf8 (code.Str (Numbered bytes) marks line) = is_utf8 bytes.items

-- the marks of an entry's own lines, which begin with `#~` where it is obsolete
abbrev pub own_marks : Bool → Marks
own_marks obsolete = record { obsolete = obsolete; previous = false }

-- the marks of previous texts, whose lines begin with `#|`, or with `#~|` where `obsolete` is true
abbrev pub previous_marks : Bool → Marks
previous_marks obsolete = record { obsolete = obsolete; previous = true }
