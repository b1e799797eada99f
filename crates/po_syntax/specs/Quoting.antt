-- The quoted form of a text, as it is written in a PO file (manual, "The Format of PO Files").
use Rattle.std.specs.Prelude.{ℕ, ◌/◌, ◌%◌, Bool, not, ◌==◌, ◌||◌, nat_lt, if◌then◌else◌, List, [], ◌∷◌, ◌++◌, ◌≡◌, ◌≢◌, ◌+◌, ◌<◌, ◌≤◌, codes, Some, None}
use Rattle.std.specs.List.{flat_map}
use Rattle.std.specs.Option.{option_map_or}
use Rattle.std.specs.Char.{digit_char}
use Rattle.po_syntax.specs.Escape.{escape_letter}

-- a backslash and the three octal digits of a byte
abbrev pub octal_escape : ℕ → List ℕ
octal_escape b = 92 ∷ digit_char (b / 64) ∷ digit_char ((b / 8) % 8) ∷ digit_char (b % 8) ∷ []

-- DEL, and the bytes below space
abbrev pub is_control : ℕ → Bool
is_control b = nat_lt b 32 || b == 127

-- the bytes that are written as they are
abbrev pub is_raw : ℕ → Bool
is_raw b = not (is_control b || b == 34 || b == 92)

-- What is written for a byte: `\a \b \t \n \v \f \r \" \\`, three octal digits for the other
-- control bytes, and the byte itself for all else.
unfoldable pub written_byte : ℕ → List ℕ
written_byte b =
    option_map_or (λ letter. 92 ∷ letter ∷ []) (escape_letter b) (if is_control b then octal_escape b else b ∷ [])

-- what is written for each byte of a text
abbrev pub written_bytes : List ℕ → List ℕ
written_bytes bytes = flat_map written_byte bytes

-- a quote, what is written for the bytes, and a quote
abbrev pub quoted : List ℕ → List ℕ
quoted bytes = 34 ∷ (written_bytes bytes ++ 34 ∷ [])

-- How a text stands between quotes where it is written, with a case for each escape (manual, "The
-- Format of PO Files").

-- What is written for a byte: a backslash and its letter, where it has one (`escape_letters`); of the
-- other control bytes three octal digits; and the byte itself for all else.
pub data WritesByte : ℕ → List ℕ → Type 0 where
  letter : {b letter : ℕ} → escape_letter b ≡ Some letter → WritesByte b (92 ∷ letter ∷ [])
  delete : WritesByte 127 (codes "\\177")
  control : {b : ℕ} → b < 32 → escape_letter b ≡ None → WritesByte b (92 ∷ 48 ∷ (48 + b / 8) ∷ (48 + b % 8) ∷ [])
  plain : {b : ℕ} → 32 ≤ b → escape_letter b ≡ None → b ≢ 127 → WritesByte b (b ∷ [])

-- after the opening quote: what is written for each byte, and the closing quote
pub data WritesString : List ℕ → List ℕ → Type 0 where
  closing_quote : WritesString [] (34 ∷ [])
  byte : {b : ℕ} {bytes here later : List ℕ} → WritesByte b here → WritesString bytes later
      → WritesString (b ∷ bytes) (here ++ later)

-- the bytes that have an escape of one letter, and what stands for them in a quoted form, worked out by
-- hand
abbrev pub lettered_bytes : List ℕ
lettered_bytes = 7 ∷ 8 ∷ 9 ∷ 10 ∷ 11 ∷ 12 ∷ 13 ∷ 34 ∷ 92 ∷ []

abbrev pub lettered_text : List ℕ
lettered_text = codes "\\a\\b\\t\\n\\v\\f\\r\\\"\\\\"

-- the quoted form of the bytes is this text
abbrev pub WritesQuoted : List ℕ → List ℕ → Type 0
WritesQuoted bytes text = (rest : List ℕ) × (text ≡ 34 ∷ rest) × WritesString bytes rest
