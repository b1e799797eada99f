-- The escapes that `gettext -e` expands ("Invoking the gettext program" of the GNU gettext manual).
use Rattle.std.specs.Prelude.{ℕ, zero, suc, ◌+◌, ◌-◌, ◌*◌, ◌%◌, Bool, ◌&&◌, ◌==◌, nat_le, if◌then◌else◌, List, [], ◌∷◌, length, fold, take, take_while, Option, Some, None, is_none, ◌≢◌, ◌<◌, ◌≤◌, true, false}
use Rattle.std.specs.List.{filter_map, list_any}
use Rattle.gettext.specs.declared.escape.Escape.{Escape}

-- an octal digit
abbrev pub is_octal : ℕ → Bool
is_octal b = nat_le 48 b && nat_le b 55

-- up to three octal digits at the beginning
abbrev pub octal_prefix : List ℕ → List ℕ
octal_prefix bs = take_while is_octal (take 3 bs)

-- the byte with one more octal digit
abbrev pub with_octal : ℕ → ℕ → ℕ
with_octal n digit = (n * 8 + (digit - 48)) % 256

-- the byte that octal digits give, modulo 256
abbrev pub octal_value : List ℕ → ℕ
octal_value digits = fold with_octal 0 digits

-- an escape of one letter that gives this byte, or none
abbrev pub letter : Option ℕ → Option Escape
letter byte = Some (record { byte = byte; size = 1 })

-- an escape of one letter: `\c` gives no byte
unfoldable pub letter_escape : ℕ → Option Escape
letter_escape b =
    if b == 97 then letter (Some 7)
    else if b == 98 then letter (Some 8)
    else if b == 102 then letter (Some 12)
    else if b == 110 then letter (Some 10)
    else if b == 114 then letter (Some 13)
    else if b == 116 then letter (Some 9)
    else if b == 118 then letter (Some 11)
    else if b == 92 then letter (Some 92)
    else if b == 99 then letter None
    else None

-- the escape that a `\` begins, by the bytes after it; any other `\` stays
unfoldable pub escape_after : List ℕ → Option Escape
escape_after [] = None
escape_after (b ∷ bs) =
    if is_octal b then Some (record {
      byte = Some (octal_value (octal_prefix (b ∷ bs)));
      size = length (octal_prefix (b ∷ bs));
    })
    else letter_escape b

-- what a byte gives: itself, or what the escape that it begins gives, a byte or none for `\c`; and
-- then what the later bytes give
abbrev pub given_bytes : ℕ → Option Escape → (ℕ → List (Option ℕ)) → List (Option ℕ)
given_bytes b None later = Some b ∷ later 0
given_bytes b (Some e) later = e.byte ∷ later e.size

-- what the bytes give, with their escapes expanded; the first `skip` bytes belong to an escape that
-- began before them
unfoldable pub given_bytes_after : ℕ → List ℕ → List (Option ℕ)
given_bytes_after skip [] = []
given_bytes_after (suc skip) (b ∷ bs) = given_bytes_after skip bs
given_bytes_after zero (b ∷ bs) =
    given_bytes b (if b == 92 then escape_after bs else None) (λ skip. given_bytes_after skip bs)

-- the text with its escapes expanded
abbrev pub expansion : List ℕ → List ℕ
expansion text = filter_map (λ u. u) (given_bytes_after 0 text)

-- whether a `\c` stands in the text
abbrev pub has_no_newline : List ℕ → Bool
has_no_newline text = list_any (λ u. is_none u) (given_bytes_after 0 text)

-- no octal digit stands first
abbrev pub NoOctalFirst : List ℕ → Type 0
NoOctalFirst [] = Unit {0}
NoOctalFirst (b ∷ text) = 48 ≤ b → b ≤ 55 → ⊥

-- After a backslash the text spells this byte, and the rest stands after the escape: a letter, a
-- backslash, or one to three octal digits, as many as there are up to three.
pub data SpellsByte : List ℕ → ℕ → List ℕ → Type 0 where
  alert : {rest : List ℕ} → SpellsByte (97 ∷ rest) 7 rest
  backspace : {rest : List ℕ} → SpellsByte (98 ∷ rest) 8 rest
  form_feed : {rest : List ℕ} → SpellsByte (102 ∷ rest) 12 rest
  line_feed : {rest : List ℕ} → SpellsByte (110 ∷ rest) 10 rest
  carriage_return : {rest : List ℕ} → SpellsByte (114 ∷ rest) 13 rest
  tab : {rest : List ℕ} → SpellsByte (116 ∷ rest) 9 rest
  vertical_tab : {rest : List ℕ} → SpellsByte (118 ∷ rest) 11 rest
  backslash : {rest : List ℕ} → SpellsByte (92 ∷ rest) 92 rest
  one_digit : (a : ℕ) {rest : List ℕ} → a < 8 → NoOctalFirst rest → SpellsByte ((48 + a) ∷ rest) a rest
  two_digits : (a b : ℕ) {rest : List ℕ} → a < 8 → b < 8 → NoOctalFirst rest
      → SpellsByte ((48 + a) ∷ (48 + b) ∷ rest) (8 * a + b) rest
  three_digits : (a b c : ℕ) {rest : List ℕ} → a < 8 → b < 8 → c < 8
      → SpellsByte ((48 + a) ∷ (48 + b) ∷ (48 + c) ∷ rest) ((64 * a + 8 * b + c) % 256) rest

-- no escape stands after a backslash
pub record IsNoEscape (text : List ℕ) : Type 0 where
  pub no_byte : (b : ℕ) (rest : List ℕ) → SpellsByte text b rest → ⊥
  pub not_c : (rest : List ℕ) → text ≢ 99 ∷ rest

-- The text with its escapes expanded, and whether it holds `\c`, which gives no byte. Any other
-- backslash stays.
pub data Expands : List ℕ → List ℕ → Bool → Type 0 where
  nothing : Expands [] [] false
  plain : {b : ℕ} {text bytes : List ℕ} {without_newline : Bool} → b ≢ 92 → Expands text bytes without_newline
      → Expands (b ∷ text) (b ∷ bytes) without_newline
  escape : {b : ℕ} {text rest bytes : List ℕ} {without_newline : Bool} → SpellsByte text b rest
      → Expands rest bytes without_newline → Expands (92 ∷ text) (b ∷ bytes) without_newline
  no_newline : {text bytes : List ℕ} {without_newline : Bool} → Expands text bytes without_newline
      → Expands (92 ∷ 99 ∷ text) bytes true
  stays : {text bytes : List ℕ} {without_newline : Bool} → IsNoEscape text → Expands text bytes without_newline
      → Expands (92 ∷ text) (92 ∷ bytes) without_newline
