-- Blanks, and what spells a keyword, with a case for each (manual, "The Format of PO Files").
use Rattle.std.specs.Prelude.{◌≡◌, ℕ, ◌-◌, Bool, false, ◌||◌, ◌==◌, IsTrue, List, [], ◌∷◌, length, take, drop, ◌^◌, ◌<◌, ◌++◌, All, codes}
use Rattle.std.specs.List.{prefix_len, suffix_len}
use Rattle.std.specs.Char.{is_ascii_alphanumeric}
use Rattle.std.specs.Str.Parse.{IsNumeral, digits_value}
use Rattle.po_syntax.specs.declared.item.Keyword.{Keyword}
use Rattle.po_syntax.specs.declared.item.Keyword.TheVariants.{MsgCtxt, MsgId, MsgIdPlural, MsgStr, MsgStrAt}

-- space, TAB, VT, FF and CR; an LF is in no line
abbrev pub is_blank : ℕ → Bool
is_blank b = b == 32 || b == 9 || b == 11 || b == 12 || b == 13

abbrev pub IsBlank : ℕ → Type 0
IsBlank b = IsTrue (is_blank b)

-- the text without the blanks at its beginning
abbrev pub skip_blanks : List ℕ → List ℕ
skip_blanks text = drop (prefix_len is_blank text) text

-- the first element, if there is one, fails the test
abbrev pub FailsFirst : {X : Type 0} → (X → Bool) → List X → Type 0
FailsFirst test [] = Unit {0}
FailsFirst test (x ∷ xs) = test x ≡ false

-- the list without the elements at its end that pass
abbrev pub without_end : {X : Type 0} → (X → Bool) → List X → List X
without_end test xs = take (length xs - suffix_len test xs) xs

-- an ASCII letter, a digit or `_`
abbrev pub is_word_byte : ℕ → Bool
is_word_byte b = is_ascii_alphanumeric b || b == 95

-- The text begins with this keyword, and the rest stands after it. After `msgstr` a bracket, an
-- index and a closing bracket may follow, on the same line, with blanks before and between them. The
-- index may begin with zeros, and is at most 4,294,967,295: this project's limit.
pub data SpellsKeyword : List ℕ → Keyword → List ℕ → Type 0 where
  msgctxt : {rest : List ℕ} → FailsFirst is_word_byte rest → SpellsKeyword (codes "msgctxt" ++ rest) MsgCtxt rest
  msgid : {rest : List ℕ} → FailsFirst is_word_byte rest → SpellsKeyword (codes "msgid" ++ rest) MsgId rest
  msgid_plural : {rest : List ℕ} → FailsFirst is_word_byte rest
      → SpellsKeyword (codes "msgid_plural" ++ rest) MsgIdPlural rest
  msgstr : {rest : List ℕ} → FailsFirst is_word_byte rest → FailsFirst (λ b. b == 91) (skip_blanks rest)
      → SpellsKeyword (codes "msgstr" ++ rest) MsgStr rest
  form : (before inside digits after : List ℕ) {rest : List ℕ} → All IsBlank before → All IsBlank inside
      → IsNumeral 10 digits → digits_value 10 digits < 2 ^ 32 → All IsBlank after
      → SpellsKeyword (codes "msgstr" ++ (before ++ 91 ∷ (inside ++ (digits ++ (after ++ 93 ∷ rest)))))
      (MsgStrAt (digits_value 10 digits)) rest
