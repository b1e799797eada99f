-- The first fault of a line, with a case for each place that can have one: this project's own, as the
-- manual names no faults (FORMATS.md, "Which fault is reported").
use Rattle.std.specs.Prelude.{◌≡◌, ◌≢◌, ◌⊎◌, ℕ, ◌^◌, ◌<◌, ◌≤◌, false, ◌||◌, ◌==◌, List, [], ◌∷◌, ◌++◌, length, All, IsTrue, None, codes}
use Rattle.std.specs.Char.{is_digit}
use Rattle.std.specs.Str.Parse.{IsNumeral, digits_value}
use Rattle.po_syntax.specs.declared.fault.PoFault.{PoFault}
use Rattle.po_syntax.specs.declared.fault.PoFault.TheVariants.{UnterminatedString, BadEscape, ForbiddenByte, BadToken, BadPluralIndex}
use Rattle.po_syntax.specs.declared.item.Keyword.{Keyword}
use Rattle.po_syntax.specs.Token.{is_blank, IsBlank, FailsFirst, is_word_byte, SpellsKeyword}
use Rattle.po_syntax.specs.Escape.{NoDigitFirst, letter_value, SpellsEscape, SpellsString}

-- no byte that a string may hold has this number
pub data NumberFault : ℕ → PoFault → Type 0 where
  nul : NumberFault 0 ForbiddenByte
  large : {number : ℕ} → 256 ≤ number → NumberFault number BadEscape

-- after a backslash no escape stands, or one whose number is 0 or above 255
pub data EscapeFault : List ℕ → PoFault → Type 0 where
  at_end : EscapeFault [] BadEscape
  no_escape : {b : ℕ} {text : List ℕ} → is_digit b 8 ≡ false → b ≢ 120 → letter_value b ≡ None
      → EscapeFault (b ∷ text) BadEscape
  octal : (digits rest : List ℕ) {fault : PoFault} → IsNumeral 8 digits → length digits ≤ 3
      → (length digits ≡ 3) ⊎ NoDigitFirst 8 rest → NumberFault (digits_value 8 digits) fault
      → EscapeFault (digits ++ rest) fault
  no_digit : {rest : List ℕ} → NoDigitFirst 16 rest → EscapeFault (120 ∷ rest) BadEscape
  hexadecimal_digits : (digits rest : List ℕ) {fault : PoFault} → IsNumeral 16 digits → NoDigitFirst 16 rest
      → NumberFault (digits_value 16 digits) fault → EscapeFault (120 ∷ digits ++ rest) fault

-- after an opening quote an escape has a fault, or the line ends before the closing quote
pub data StringFault : List ℕ → PoFault → Type 0 where
  not_closed : StringFault [] UnterminatedString
  in_escape : {text : List ℕ} {fault : PoFault} → EscapeFault text fault → StringFault (92 ∷ text) fault
  after_plain : {b : ℕ} {text : List ℕ} {fault : PoFault} → b ≢ 34 → b ≢ 92 → StringFault text fault
      → StringFault (b ∷ text) fault
  after_escape : {b : ℕ} {text next : List ℕ} {fault : PoFault} → SpellsEscape text b next → StringFault next fault
      → StringFault (92 ∷ text) fault

-- the word is none of the keywords
pub record IsNoKeyword (word : List ℕ) : Type 0 where
  pub context : word ≢ codes "msgctxt"
  pub id : word ≢ codes "msgid"
  pub plural : word ≢ codes "msgid_plural"
  pub translation : word ≢ codes "msgstr"

-- after `msgstr`, a bracket and blanks: no index, one that is too large, or one without a closing bracket
pub data IndexFault : List ℕ → PoFault → Type 0 where
  no_index : {text : List ℕ} → FailsFirst is_blank text → NoDigitFirst 10 text → IndexFault text BadToken
  large_index : (digits rest : List ℕ) → IsNumeral 10 digits → NoDigitFirst 10 rest
      → 2 ^ 32 ≤ digits_value 10 digits → IndexFault (digits ++ rest) BadPluralIndex
  not_closed_index : (digits after rest : List ℕ) → IsNumeral 10 digits → NoDigitFirst 10 (after ++ rest)
      → digits_value 10 digits < 2 ^ 32 → All IsBlank after → FailsFirst (λ b. is_blank b || b == 93) rest
      → IndexFault (digits ++ (after ++ rest)) BadToken

-- the text begins with a word that is no keyword, or with `msgstr` and a bracket, after which there is an
-- index fault
pub data KeywordFault : List ℕ → PoFault → Type 0 where
  no_keyword : (b : ℕ) (word rest : List ℕ) → All (λ c. IsTrue (is_word_byte c)) (b ∷ word)
      → FailsFirst is_word_byte rest → IsNoKeyword (b ∷ word) → KeywordFault ((b ∷ word) ++ rest) BadToken
  in_index : (before inside index : List ℕ) {fault : PoFault} → All IsBlank before → All IsBlank inside
      → IndexFault index fault → KeywordFault (codes "msgstr" ++ (before ++ 91 ∷ (inside ++ index))) fault

-- the first fault of tokens
pub data TokensFault : List ℕ → PoFault → Type 0 where
  no_token : {b : ℕ} {text : List ℕ} → is_blank b ≡ false → b ≢ 34 → is_word_byte b ≡ false
      → TokensFault (b ∷ text) BadToken
  blank : {b : ℕ} {text : List ℕ} {fault : PoFault} → IsBlank b → TokensFault text fault → TokensFault (b ∷ text) fault
  in_keyword : {text : List ℕ} {fault : PoFault} → KeywordFault text fault → TokensFault text fault
  in_string : {text : List ℕ} {fault : PoFault} → StringFault text fault → TokensFault (34 ∷ text) fault
  after_keyword : {text rest : List ℕ} {word : Keyword} {fault : PoFault} → SpellsKeyword text word rest
      → TokensFault rest fault → TokensFault text fault
  after_string : {text bytes rest : List ℕ} {fault : PoFault} → SpellsString text bytes rest → TokensFault rest fault
      → TokensFault (34 ∷ text) fault

-- the text begins with no blank and no `#`, so that blanks before it are those of `indented`
abbrev pub BeginsTokens : List ℕ → Type 0
BeginsTokens text = FailsFirst (λ b. is_blank b || b == 35) text

-- The first fault of a line: that of its tokens; or `#~` is followed by `#|` or by a second `#~`.
pub data LineFault : List ℕ → PoFault → Type 0 where
  indented : {b : ℕ} {text : List ℕ} {fault : PoFault} → IsBlank b → LineFault text fault → LineFault (b ∷ text) fault
  previous_again : (blanks rest : List ℕ) → All IsBlank blanks
      → LineFault (35 ∷ 126 ∷ (blanks ++ 35 ∷ 124 ∷ rest)) BadToken
  obsolete_again : (blanks rest : List ℕ) → All IsBlank blanks
      → LineFault (35 ∷ 126 ∷ (blanks ++ 35 ∷ 126 ∷ rest)) BadToken
  live : {text : List ℕ} {fault : PoFault} → BeginsTokens text → TokensFault text fault → LineFault text fault
  previous : {text : List ℕ} {fault : PoFault} → TokensFault text fault → LineFault (35 ∷ 124 ∷ text) fault
  obsolete : (blanks : List ℕ) {text : List ℕ} {fault : PoFault} → All IsBlank blanks → BeginsTokens text
      → FailsFirst (λ b. b == 124) (blanks ++ text) → TokensFault text fault
      → LineFault (35 ∷ 126 ∷ (blanks ++ text)) fault
  obsolete_previous : {text : List ℕ} {fault : PoFault} → TokensFault text fault
      → LineFault (35 ∷ 126 ∷ 124 ∷ text) fault
