-- What spells a string between double quotes, with a table of the escapes of one letter and a case for
-- each other (manual, "The Format of PO Files").
use Rattle.std.specs.Prelude.{◌≡◌, ◌≢◌, ◌⊎◌, ℕ, ◌<◌, ◌≤◌, ◌==◌, List, [], ◌∷◌, ◌++◌, length, Option, Some, option_map}
use Rattle.std.specs.Char.{is_digit}
use Rattle.std.specs.List.{find}
use Rattle.std.specs.Str.Parse.{IsNumeral, digits_value}
use Rattle.po_syntax.specs.Token.{FailsFirst}

-- no digit of the base stands first in the text
abbrev pub NoDigitFirst : ℕ → List ℕ → Type 0
NoDigitFirst base text = FailsFirst (λ b. is_digit b base) text

-- the number of a byte that a string may hold: any but NUL
abbrev pub IsByteNumber : ℕ → Type 0
IsByteNumber number = (0 < number) × (number < 256)

-- What stands after a backslash for a byte, with the byte: `\a` is 7, `\b` 8, `\t` 9, `\n` 10, `\v` 11,
-- `\f` 12, `\r` 13, `\\` and `\"` themselves.
abbrev pub escape_letters : List (ℕ × ℕ)
escape_letters = (97, 7) ∷ (98, 8) ∷ (116, 9) ∷ (110, 10) ∷ (118, 11) ∷ (102, 12) ∷ (114, 13) ∷ (92, 92) ∷ (34, 34) ∷ []

-- the byte that a letter, a backslash or a quote after a backslash stands for, if it is one of these
abbrev pub letter_value : ℕ → Option ℕ
letter_value letter = option_map (λ p. p.1) (find (λ p. letter == p.0) escape_letters)

-- what stands after a backslash for a byte, if it is one of these
abbrev pub escape_letter : ℕ → Option ℕ
escape_letter b = option_map (λ p. p.0) (find (λ p. b == p.1) escape_letters)

-- After a backslash the text spells this byte, and the rest stands after the escape. A letter gives its
-- byte (`letter_value`); octal digits give the byte's number, as many as stand there, up to three; or
-- hex digits after an `x` do, all that stand there. C's `\'` and `\?` and a backslash at the end of a
-- line are no escapes: this project's choice.
pub data SpellsEscape : List ℕ → ℕ → List ℕ → Type 0 where
  letter : {b value : ℕ} {rest : List ℕ} → letter_value b ≡ Some value → SpellsEscape (b ∷ rest) value rest
  octal : (digits : List ℕ) {rest : List ℕ} → IsNumeral 8 digits → length digits ≤ 3
      → (length digits ≡ 3) ⊎ NoDigitFirst 8 rest → IsByteNumber (digits_value 8 digits)
      → SpellsEscape (digits ++ rest) (digits_value 8 digits) rest
  hexadecimal : (digits : List ℕ) {rest : List ℕ} → IsNumeral 16 digits → NoDigitFirst 16 rest
      → IsByteNumber (digits_value 16 digits)
      → SpellsEscape (120 ∷ digits ++ rest) (digits_value 16 digits) rest

-- After an opening quote the text spells these bytes, and the rest stands after the closing quote.
pub data SpellsString : List ℕ → List ℕ → List ℕ → Type 0 where
  closed : {rest : List ℕ} → SpellsString (34 ∷ rest) [] rest
  plain : {b : ℕ} {text bytes rest : List ℕ} → b ≢ 34 → b ≢ 92 → SpellsString text bytes rest
      → SpellsString (b ∷ text) (b ∷ bytes) rest
  escape : {b : ℕ} {text next bytes rest : List ℕ} → SpellsEscape text b next → SpellsString next bytes rest
      → SpellsString (92 ∷ text) (b ∷ bytes) rest
