-- The trees that tokens spell, by levels of precedence. Where a token and a node of the tree have
-- one name, the token's has `Token` added to it here.
-- GNU gettext manual, "Plural forms"; C standard, "Expressions": from "Conditional operator" (level
-- 0) to "Unary operators" (level 7).
use Rattle.std.specs.Prelude.{ℕ, suc, ◌^◌, ◌<◌, List, [], ◌∷◌, ◌++◌}
use Rattle.plural_rule.specs.declared.operator.Operator.{Operator}
use Rattle.plural_rule.specs.declared.token.Token.{Token}
use Rattle.plural_rule.specs.declared.token.Token.TheVariants.{Count as CountToken, Number as NumberToken, Not as NotToken, Binary as BinaryToken, Question, Colon, Open, Close}
use Rattle.plural_rule.specs.Evaluator.{Tree, Count, Number, Not, Binary, Conditional}
use Rattle.plural_rule.specs.Lexer.{Lexes}
use Rattle.plural_rule.specs.Operator.{level}

-- The tokens spell the tree as an operand of this level: 0 is a whole expression, 7 an operand of
-- `!`, as is an expression in parentheses. Operators of two operands group to the left, `?:` to the
-- right.
pub data Spells : ℕ → List Token → Tree → Type 0 where
  tighter : {k : ℕ} {ts : List Token} {t : Tree} → Spells (suc k) ts t → Spells k ts t
  conditional : {xs ys zs : List Token} {a b c : Tree} → Spells 1 xs a → Spells 0 ys b → Spells 0 zs c
      → Spells 0 (xs ++ Question ∷ (ys ++ Colon ∷ zs)) (Conditional a b c)
  binary : {xs ys : List Token} {a b : Tree} (op : Operator) → Spells (level op) xs a → Spells (suc (level op)) ys b
      → Spells (level op) (xs ++ BinaryToken op ∷ ys) (Binary op a b)
  negation : {xs : List Token} {a : Tree} → Spells 7 xs a → Spells 7 (NotToken ∷ xs) (Not a)
  parentheses : {xs : List Token} {a : Tree} → Spells 0 xs a → Spells 7 (Open ∷ (xs ++ Close ∷ [])) a
  count : Spells 7 (CountToken ∷ []) Count
  numeral : (v : ℕ) → v < 2 ^ 64 → Spells 7 (NumberToken v ∷ []) (Number v)

-- the text spells the tree
abbrev pub Spelt : Tree → List ℕ → Type 0
Spelt tree text = (ts : List Token) × Lexes text ts × Spells 0 ts tree
