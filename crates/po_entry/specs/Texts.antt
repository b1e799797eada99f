-- What a text lacks, and what is left of it without the blanks at its ends (manual, "The Format of PO
-- Files").
use Rattle.std.specs.Prelude.{◌≢◌, ℕ, List, [], ◌∷◌, All, Contains, IsUtf8}
use Rattle.po_syntax.specs.Prelude.{is_blank, skip_blanks, without_end}
use Rattle.po_entry.specs.declared.texts.Need.{Need}
use Rattle.po_entry.specs.declared.texts.Need.TheVariants.{Utf8, Without}

-- the text holds no such byte
abbrev pub Lacks : ℕ → List ℕ → Type 0
Lacks byte text = All (λ b. b ≢ byte) text

-- the text without the blanks at its ends
abbrev pub trimmed : List ℕ → List ℕ
trimmed text = without_end is_blank (skip_blanks text)

-- no text stands twice in the list
abbrev pub AreDistinct : List (List ℕ) → Type 0
AreDistinct [] = Unit {0}
AreDistinct (text ∷ texts) = (Contains texts text → ⊥) × AreDistinct texts

-- What a text is tested for.

abbrev pub Meets : Need → List ℕ → Type 0
Meets Utf8 text = IsUtf8 text
Meets (Without byte) text = Lacks byte text
