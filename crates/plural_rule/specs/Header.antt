-- The two fields of a header text that make a plural rule.
-- GNU gettext manual, "Plural forms" and "Filling in the Header Entry".
use Rattle.std.specs.Prelude.{ℕ, Bool, ◌||◌, ◌==◌, nat_eq, List, [], ◌∷◌, Option, Some, None, option_map, option_and_then, length, drop, take_while, if◌then◌else◌, codes}
use Rattle.std.specs.List.{starts_with, before_first}
use Rattle.std.specs.Str.Parse.{digits_value}
use Rattle.std.specs.Char.{is_ascii_digit}
use Rattle.plural_rule.specs.Lexer.{without_blanks}

-- what stands after the first occurrence of a name in a text, wherever that is; none where there is
-- none
abbrev pub after_first : List ℕ → List ℕ → Option (List ℕ)
after_first name [] = None
after_first name (c ∷ rest) =
    if starts_with nat_eq (c ∷ rest) name then Some (drop (length name) (c ∷ rest)) else after_first name rest

-- the number that one digit or more spell, however large
abbrev pub digits_number : List ℕ → Option ℕ
digits_number [] = None
digits_number (c ∷ rest) = Some (digits_value 10 (c ∷ rest))

-- the number at the beginning of a text, after spaces and TABs; whatever follows it
abbrev pub leading_number : List ℕ → Option ℕ
leading_number text = digits_number (take_while is_ascii_digit (without_blanks text))

-- the number of plural forms that a header names; none where no digit follows
abbrev pub nplurals_of : List ℕ → Option ℕ
nplurals_of header = option_and_then leading_number (after_first (codes "nplurals=") header)

-- a byte that ends an expression: `;` or LF
abbrev pub is_end : ℕ → Bool
is_end c = c == 59 || c == 10

-- the text of the expression that a header names: all bytes up to its end, blanks too
abbrev pub expression_of : List ℕ → Option (List ℕ)
expression_of header = option_map (before_first is_end) (after_first (codes "plural=") header)
