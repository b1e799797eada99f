-- What spells the items of a line, with a case for each kind of line and of token (manual, "The
-- Format of PO Files").
use Rattle.std.specs.Prelude.{ℕ, Bool, ◌||◌, ◌==◌, true, false, List, [], ◌∷◌, ◌++◌, All}
use Rattle.po_syntax.specs.declared.item.CommentKind.{CommentKind}
use Rattle.po_syntax.specs.declared.item.CommentKind.TheVariants.{Translator, Extracted, Reference, Flags}
use Rattle.po_syntax.specs.declared.item.Keyword.{Keyword}
use Rattle.po_syntax.specs.declared.item.Marks.{Marks}
use Rattle.po_syntax.specs.Token.{IsBlank, FailsFirst, SpellsKeyword}
use Rattle.po_syntax.specs.Escape.{SpellsString}
use Rattle.po_syntax.specs.Item.{trim_returns, TextItem, Comment, Word, Str, own_marks, previous_marks}

-- keywords and strings in any order and number, with blanks or none before, between and after them
pub data HoldsTokens (marks : Marks) (line : ℕ) : List ℕ → List TextItem → Type 0 where
  end : HoldsTokens marks line [] []
  blank : {b : ℕ} {text : List ℕ} {items : List TextItem} → IsBlank b → HoldsTokens marks line text items
      → HoldsTokens marks line (b ∷ text) items
  keyword : {word : Keyword} {text rest : List ℕ} {items : List TextItem} → SpellsKeyword text word rest
      → HoldsTokens marks line rest items → HoldsTokens marks line text (Word word marks line ∷ items)
  string : {text bytes rest : List ℕ} {items : List TextItem} → SpellsString text bytes rest
      → HoldsTokens marks line rest items → HoldsTokens marks line (34 ∷ text) (Str bytes marks line ∷ items)

-- a byte that after `#` marks another line than a translator's comment: one of `.:,|~`
abbrev pub is_mark : ℕ → Bool
is_mark b = b == 46 || b == 58 || b == 44 || b == 124 || b == 126

-- after a `#` the text is a comment of this kind, and the rest is what follows its mark
pub data SpellsComment : List ℕ → CommentKind → List ℕ → Type 0 where
  extracted : {rest : List ℕ} → SpellsComment (46 ∷ rest) Extracted rest
  reference : {rest : List ℕ} → SpellsComment (58 ∷ rest) Reference rest
  flags : {rest : List ℕ} → SpellsComment (44 ∷ rest) Flags rest
  translator : {text : List ℕ} → FailsFirst is_mark text → SpellsComment text Translator text

-- The line of this number, after any blanks, holds these items: tokens, alone or after `#|`, `#~` or
-- `#~|`; or a comment, alone or after `#~`, which leaves no mark on it. An empty line, and `#|`, `#~`
-- or `#~|` alone, hold none. Each line has one list of items, or one fault, and not both.
pub data HoldsItems (line : ℕ) : List ℕ → List TextItem → Type 0 where
  indented : {b : ℕ} {text : List ℕ} {items : List TextItem} → IsBlank b → HoldsItems line text items
      → HoldsItems line (b ∷ text) items
  comment : {kind : CommentKind} {text rest : List ℕ} → SpellsComment text kind rest
      → HoldsItems line (35 ∷ text) (Comment kind (trim_returns rest) line ∷ [])
  obsolete_comment : (blanks : List ℕ) {kind : CommentKind} {text rest : List ℕ} → All IsBlank blanks
      → SpellsComment text kind rest
      → HoldsItems line (35 ∷ 126 ∷ (blanks ++ 35 ∷ text)) (Comment kind (trim_returns rest) line ∷ [])
  live : {text : List ℕ} {items : List TextItem} → HoldsTokens (own_marks false) line text items
      → HoldsItems line text items
  previous : {text : List ℕ} {items : List TextItem} → HoldsTokens (previous_marks false) line text items
      → HoldsItems line (35 ∷ 124 ∷ text) items
  obsolete : {text : List ℕ} {items : List TextItem} → HoldsTokens (own_marks true) line text items
      → HoldsItems line (35 ∷ 126 ∷ text) items
  obsolete_previous : {text : List ℕ} {items : List TextItem} → HoldsTokens (previous_marks true) line text items
      → HoldsItems line (35 ∷ 126 ∷ 124 ∷ text) items
