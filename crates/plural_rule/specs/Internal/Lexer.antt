-- Internal: the token at the beginning of a text.
use Rattle.std.specs.Prelude.{◌≡◌, ℕ, ◌^◌, ◌<◌, ◌≤◌, List, [], ◌∷◌, ◌++◌, length, take, drop, slice_index}
use Rattle.plural_rule.specs.declared.operator.Operator.{Operator}
use Rattle.plural_rule.specs.declared.token.Token.{Token}
use Rattle.plural_rule.specs.declared.token.Token.TheVariants.{Number}
use Rattle.plural_rule.specs.Lexer.{operator_bytes, IsSpelling, IsLongest}

-- the first n bytes of the text are the longest that spell a token
pub record IsTokenAt (text : List ℕ) (t : Token) (n : ℕ) : Type 0 where
  pub some : 0 < n
  pub within : n ≤ length text
  pub spelling : IsSpelling t (take n text)
  pub longest : IsLongest (take n text) (drop n text)

-- a numeral that doesn't fit 64 bits
abbrev pub IsTooLarge : Token → Type 0
IsTooLarge (Number v) = 2 ^ 64 ≤ v
IsTooLarge _ = ⊥

-- no token begins the text, or only a numeral that doesn't fit 64 bits
abbrev pub HasNoToken : List ℕ → Type 0
HasNoToken text =
    (t : Token) (own rest : List ℕ) → text ≡ own ++ rest → IsSpelling t own → IsLongest own rest → IsTooLarge t

-- the first two bytes of the text spell the operator
pub record BeginsWithDouble (text : List ℕ) (op : Operator) : Type 0 where
  pub two : 1 < length text
  pub bytes : operator_bytes op ≡ slice_index text 0 ∷ slice_index text 1 ∷ []

-- they spell no operator
abbrev pub HasNoDouble : List ℕ → Type 0
HasNoDouble text = (op : Operator) → BeginsWithDouble text op → ⊥
