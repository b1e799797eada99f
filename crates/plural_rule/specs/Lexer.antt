-- The tokens that a text spells, each the longest that fits, with blanks between them.
-- GNU gettext manual, "Plural forms"; C standard, "Lexical elements".
use Rattle.std.specs.Prelude.{◌≡◌, ◌≢◌, ℕ, Bool, ◌||◌, ◌==◌, List, [], ◌∷◌, ◌++◌, IsTrue, codes, drop}
use Rattle.std.specs.Str.Parse.{AllDigits, digits_value}
use Rattle.plural_rule.specs.declared.operator.Operator.{Operator}
use Rattle.plural_rule.specs.declared.operator.Operator.TheVariants.{Or, And, Equal, NotEqual, Less, Greater, Remainder, AtMost, AtLeast, Add, Subtract, Multiply, Divide}
use Rattle.plural_rule.specs.declared.token.Token.{Token}
use Rattle.plural_rule.specs.declared.token.Token.TheVariants.{Count, Number, Not, Binary, Question, Colon, Open, Close}
use Rattle.std.specs.List.{prefix_len}

-- a space or a TAB; CR, FF and VT, which are blanks of a PO text, are none here
abbrev pub is_blank : ℕ → Bool
is_blank c = c == 32 || c == 9

-- the text without the blanks at its beginning
abbrev pub without_blanks : List ℕ → List ℕ
without_blanks text = drop (prefix_len is_blank text) text

-- the bytes of an operator
abbrev pub operator_bytes : Operator → List ℕ
operator_bytes Or = codes "||"
operator_bytes And = codes "&&"
operator_bytes Equal = codes "=="
operator_bytes NotEqual = codes "!="
operator_bytes Less = codes "<"
operator_bytes Greater = codes ">"
operator_bytes AtMost = codes "<="
operator_bytes AtLeast = codes ">="
operator_bytes Add = codes "+"
operator_bytes Subtract = codes "-"
operator_bytes Multiply = codes "*"
operator_bytes Divide = codes "/"
operator_bytes Remainder = codes "%"

-- the bytes spell the token: a numeral is one decimal digit or more, also with a 0 first, and every
-- other token has one spelling
abbrev pub IsSpelling : Token → List ℕ → Type 0
IsSpelling Count bytes = bytes ≡ codes "n"
IsSpelling (Number v) bytes = (bytes ≢ []) × AllDigits 10 bytes × (digits_value 10 bytes ≡ v)
IsSpelling Not bytes = bytes ≡ codes "!"
IsSpelling (Binary op) bytes = bytes ≡ operator_bytes op
IsSpelling Question bytes = bytes ≡ codes "?"
IsSpelling Colon bytes = bytes ≡ codes ":"
IsSpelling Open bytes = bytes ≡ codes "("
IsSpelling Close bytes = bytes ≡ codes ")"

-- no longer spelling begins with these bytes: no token is spelt by them and some of what follows
abbrev pub IsLongest : List ℕ → List ℕ → Type 0
IsLongest own rest =
    (t : Token) (more after : List ℕ) → rest ≡ more ++ after → more ≢ [] → IsSpelling t (own ++ more) → ⊥

-- the text spells the tokens; blanks may stand before, between and after them, and in none of them
pub data Lexes : List ℕ → List Token → Type 0 where
  end : Lexes [] []
  blank : {c : ℕ} {text : List ℕ} {ts : List Token} → IsTrue (is_blank c) → Lexes text ts → Lexes (c ∷ text) ts
  token : {rest : List ℕ} {ts : List Token} (t : Token) (own : List ℕ) → IsSpelling t own → IsLongest own rest
      → Lexes rest ts → Lexes (own ++ rest) (t ∷ ts)
