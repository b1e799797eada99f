-- The COUNT of ngettext ("Invoking the ngettext program" of the GNU gettext manual).
use Rattle.std.specs.Prelude.{ℕ, Bool, not, ◌&&◌, ◌==◌, nat_lt, if◌then◌else◌, List, length, ◌≢◌, ◌+◌, ◌*◌, ◌^◌, ◌<◌, ◌≤◌, [], ◌∷◌}
use Rattle.std.specs.Char.{is_digit}
use Rattle.std.specs.List.{list_all}
use Rattle.std.specs.Str.Parse.{digits_value}

-- decimal digits alone
abbrev pub are_digits : List ℕ → Bool
are_digits text = list_all (λ b. is_digit b 10) text

-- decimal digits alone, one at least, of a number below 2 ^ 64
abbrev pub is_count : List ℕ → Bool
is_count text = (not (length text == 0) && are_digits text) && nat_lt (digits_value 10 text) 18446744073709551616

-- the count that the argument COUNT gives: any other text is taken as 99
unfoldable pub count_in : List ℕ → ℕ
count_in text = if is_count text then digits_value 10 text else 99

-- decimal digits, after those of a first number, spell a number
pub data SpellsAfter : ℕ → List ℕ → ℕ → Type 0 where
  no_digit : {first : ℕ} → SpellsAfter first [] first
  digit : {first number : ℕ} {text : List ℕ} (a : ℕ) → a < 10 → SpellsAfter (first * 10 + a) text number
      → SpellsAfter first ((48 + a) ∷ text) number

-- one decimal digit or more spell a number
pub record SpellsNumber (text : List ℕ) (number : ℕ) : Type 0 where
  pub some : text ≢ []
  pub digits : SpellsAfter 0 text number

-- The count that a text gives: its number where it is below 2 ^ 64, and 99 for any other text.
pub data GivesCount (text : List ℕ) : ℕ → Type 0 where
  number : {count : ℕ} → SpellsNumber text count → count < 2 ^ 64 → GivesCount text count
  other : ((count : ℕ) → SpellsNumber text count → 2 ^ 64 ≤ count) → GivesCount text 99
