-- Names and references in a text ("Invoking the envsubst program" of the GNU gettext manual).
use Rattle.std.specs.Prelude.{◌≡◌, refl, filter, codes, ℕ, ◌+◌, Bool, false, ◌&&◌, ◌||◌, ◌==◌, nat_lt, if◌then◌else◌, List, [], ◌∷◌, ◌++◌, length, drop, take_while, Option, Some, None}
use Rattle.std.specs.List.{cons_option, flat_map, range_with_len}
use Rattle.std.specs.Char.{is_ascii_alphabetic, is_ascii_alphanumeric}
use Rattle.std.specs.Option.{option_map}

-- what a name begins with: an ASCII letter or `_`
unfoldable pub is_letter : ℕ → Bool
is_letter b = is_ascii_alphabetic b || b == 95

-- what a name goes on with: a letter, `_` or a digit
unfoldable pub is_name_byte : ℕ → Bool
is_name_byte b = is_ascii_alphanumeric b || b == 95

-- of all bytes, those with which a name begins, and those with which it goes on
pub letters_are : filter is_letter (range_with_len 0 256)
    ≡ codes "ABCDEFGHIJKLMNOPQRSTUVWXYZ_abcdefghijklmnopqrstuvwxyz"
unfolding is_letter
letters_are = refl

pub name_bytes_are : filter is_name_byte (range_with_len 0 256)
    ≡ codes "0123456789ABCDEFGHIJKLMNOPQRSTUVWXYZ_abcdefghijklmnopqrstuvwxyz"
unfolding is_name_byte
name_bytes_are = refl

-- a run of name bytes is a name where it begins with a letter and has at most 255 bytes
unfoldable pub is_name : List ℕ → Bool
is_name [] = false
is_name (b ∷ bs) = is_letter b && nat_lt (length bs) 255

-- the longest run of name bytes at the beginning of a text
abbrev pub name_prefix : List ℕ → List ℕ
name_prefix bs = take_while is_name_byte bs

-- a reference: its name, and how many bytes it takes after its `$`
pub record Reference : Type 0 where
  pub name : List ℕ
  pub size : ℕ

-- the text begins with this byte
abbrev pub begins_with : ℕ → List ℕ → Bool
begins_with a [] = false
begins_with a (b ∷ bs) = b == a

-- `$NAME`, by the bytes after the `$`
unfoldable pub bare_reference : List ℕ → Option Reference
bare_reference bs =
    if is_name (name_prefix bs) then Some (record { name = name_prefix bs; size = length (name_prefix bs) }) else None

-- `${NAME}`, by the bytes after the `${`
unfoldable pub braced_reference : List ℕ → Option Reference
braced_reference bs =
    if is_name (name_prefix bs) && begins_with 125 (drop (length (name_prefix bs)) bs)
    then Some (record { name = name_prefix bs; size = length (name_prefix bs) + 2 }) else None

-- the reference that a `$` begins, by the bytes after it
unfoldable pub reference_after : List ℕ → Option Reference
reference_after bs = if begins_with 123 bs then braced_reference (drop 1 bs) else bare_reference bs

-- the names of the references in a text, in order, with repeats
unfoldable pub names_in : List ℕ → List (List ℕ)
names_in [] = []
names_in (b ∷ bs) =
    cons_option (if b == 36 then option_map (λ r. r.name) (reference_after bs) else None) (names_in bs)

-- the names of the references in a text, one a line
abbrev pub name_lines : List ℕ → List ℕ
name_lines text = flat_map (λ name. name ++ 10 ∷ []) (names_in text)

pub lines_are : name_lines (codes "$A ${b2} $3 $A") ≡ codes "A\nb2\nA\n"
unfolding names_in reference_after bare_reference braced_reference is_name is_letter is_name_byte
lines_are = refl
