-- Internal: reading tokens by operator precedence, over trees.
use Rattle.std.specs.Prelude.{ℕ, ◌^◌, nat_le, nat_lt, ◌==◌, List, [], ◌∷◌, Option, Some, None, option_and_then, if◌then◌else◌, ◌≡◌, refl}
use Rattle.plural_rule.specs.declared.operator.Operator.{Operator}
use Rattle.plural_rule.specs.declared.token.Token.{Token}
use Rattle.plural_rule.specs.declared.token.Token.TheVariants.{Count as CountToken, Number as NumberToken, Not as NotToken, Binary as BinaryToken, Question, Colon, Open, Close}
use Rattle.plural_rule.specs.Evaluator.{Tree, Count, Number, Not, Binary, Conditional}
use Rattle.plural_rule.specs.Operator.{level}
use Rattle.plural_rule.specs.declared.operator.Operator.TheVariants.{Or, And, Equal, NotEqual, Less, Greater, Remainder, AtMost, AtLeast, Add, Subtract, Multiply, Divide}

-- what waits for its last operand: `!`, `(`, `a op`, `a ?` and `a ? b :`
pub data Waiting : Type 0 where
  WaitNot : Waiting
  WaitOpen : Waiting
  WaitBinary : Operator → Tree → Waiting
  WaitQuestion : Tree → Waiting
  WaitColon : Tree → Tree → Waiting

-- what waits, newest first, and a complete operand
pub record Operand : Type 0 where
  pub stack : List Waiting
  pub tree : Tree

-- an operand is wanted, or one is complete
pub data State : Type 0 where
  Want : List Waiting → State
  Have : List Waiting → Tree → State

-- the tree that a last operand completes, where an operator of this level follows it
abbrev pub completed : ℕ → Waiting → Tree → Option Tree
completed k WaitNot t = Some (Not t)
completed k (WaitBinary op a) t = if nat_le k (level op) then Some (Binary op a t) else None
completed k (WaitColon a b) t = if k == 0 then Some (Conditional a b t) else None
completed k _ t = None

-- one step of `reduce`: where the operand completes nothing, it stays, and so does what waits
abbrev pub reduce_by : (Tree → Operand) → Waiting → List Waiting → Tree → Option Tree → Operand
reduce_by go w stack t None = record { stack = w ∷ stack; tree = t }
reduce_by go w stack t (Some u) = go u

-- a last operand completes what waits, newest first, while that binds at least as tight as level k:
-- what then waits, and the operand
abbrev pub reduce : ℕ → List Waiting → Tree → Operand
reduce k [] t = record { stack = []; tree = t }
reduce k (w ∷ stack) t = reduce_by (reduce k stack) w stack t (completed k w t)

-- what `:` and `)` do after an operand
abbrev pub at_colon : List Waiting → Tree → Option State
at_colon (WaitQuestion a ∷ stack) b = Some (Want (WaitColon a b ∷ stack))
at_colon _ b = None

abbrev pub at_close : List Waiting → Tree → Option State
at_close (WaitOpen ∷ stack) a = Some (Have stack a)
at_close _ a = None

-- the state after a token, or none where it can't stand here
abbrev pub want_step : List Waiting → Token → Option State
want_step stack CountToken = Some (Have stack Count)
want_step stack (NumberToken v) = if nat_lt v (2 ^ 64) then Some (Have stack (Number v)) else None
want_step stack NotToken = Some (Want (WaitNot ∷ stack))
want_step stack Open = Some (Want (WaitOpen ∷ stack))
want_step stack _ = None

-- the level down to which an operand is completed before a token
abbrev pub closing_level : Token → ℕ
closing_level (BinaryToken op) = level op
closing_level Question = 1
closing_level _ = 0

abbrev pub at_operator : Operand → Token → Option State
at_operator o (BinaryToken op) = Some (Want (WaitBinary op o.tree ∷ o.stack))
at_operator o Question = Some (Want (WaitQuestion o.tree ∷ o.stack))
at_operator o Colon = at_colon o.stack o.tree
at_operator o Close = at_close o.stack o.tree
at_operator o _ = None

abbrev pub have_step : List Waiting → Tree → Token → Option State
have_step stack t token = at_operator (reduce (closing_level token) stack t) token

abbrev pub step : State → Token → Option State
step (Want stack) token = want_step stack token
step (Have stack t) token = have_step stack t token

-- the tree of a state at the end of the tokens
abbrev pub alone : List Waiting → Tree → Option Tree
alone [] t = Some t
alone (w ∷ stack) t = None

abbrev pub finish : State → Option Tree
finish (Want stack) = None
finish (Have stack t) = let o = reduce 0 stack t in alone o.stack o.tree

-- the tree that the tokens after a state complete
abbrev pub outcome_from : State → List Token → Option Tree
outcome_from state [] = finish state
outcome_from state (token ∷ ts) = option_and_then (λ next. outcome_from next ts) (step state token)

-- the tree that tokens spell
abbrev pub outcome : List Token → Option Tree
outcome ts = outcome_from (Want []) ts

-- Expressions with operators of two levels, worked out by hand from C's table of operators (C standard,
-- "Expressions"; GNU gettext manual, "Plural forms").

-- 1 op 2 op' 3
abbrev tokens : Operator → Operator → List Token
tokens op op' = NumberToken 1 ∷ BinaryToken op ∷ NumberToken 2 ∷ BinaryToken op' ∷ NumberToken 3 ∷ []

-- (1 op 2) op' 3, and 1 op (2 op' 3)
abbrev from_left : Operator → Operator → Tree
from_left op op' = Binary op' (Binary op (Number 1) (Number 2)) (Number 3)

abbrev from_right : Operator → Operator → Tree
from_right op op' = Binary op (Number 1) (Binary op' (Number 2) (Number 3))

abbrev GroupsRight : Operator → Operator → Type 0
GroupsRight op op' = outcome (tokens op op') ≡ Some (from_right op op')

abbrev GroupsLeft : Operator → Operator → Type 0
GroupsLeft op op' = outcome (tokens op op') ≡ Some (from_left op op')

-- the second operator binds tighter: 1 || 2 && 3 is 1 || (2 && 3), and so on
pub tighter : GroupsRight Or And × GroupsRight And Equal × GroupsRight NotEqual Less × GroupsRight AtLeast Add
    × GroupsRight Subtract Multiply
tighter = (refl, refl, refl, refl, refl)

-- operators of one level group to the left: 1 || 2 || 3 is (1 || 2) || 3, and so on
pub to_the_left : GroupsLeft Or Or × GroupsLeft And And × GroupsLeft Equal NotEqual × GroupsLeft NotEqual Equal
    × GroupsLeft Less Greater × GroupsLeft Greater AtMost × GroupsLeft AtMost AtLeast × GroupsLeft AtLeast Less
    × GroupsLeft Add Subtract × GroupsLeft Subtract Add × GroupsLeft Multiply Divide × GroupsLeft Divide Remainder
    × GroupsLeft Remainder Multiply
to_the_left = (refl, refl, refl, refl, refl, refl, refl, refl, refl, refl, refl, refl, refl)

-- !n == 1 is (!n) == 1
pub not_equal : outcome (NotToken ∷ CountToken ∷ BinaryToken Equal ∷ NumberToken 1 ∷ [])
    ≡ Some (Binary Equal (Not Count) (Number 1))
not_equal = refl

-- n || 1 ? 2 : 3 is (n || 1) ? 2 : 3
pub or_condition : outcome
    (CountToken ∷ BinaryToken Or ∷ NumberToken 1 ∷ Question ∷ NumberToken 2 ∷ Colon ∷ NumberToken 3 ∷ [])
    ≡ Some (Conditional (Binary Or Count (Number 1)) (Number 2) (Number 3))
or_condition = refl

-- n ? 1 : 2 ? 3 : 4 is n ? 1 : (2 ? 3 : 4)
pub conditions : outcome
    (CountToken ∷ Question ∷ NumberToken 1 ∷ Colon ∷ NumberToken 2 ∷ Question ∷ NumberToken 3 ∷ Colon ∷ NumberToken 4
    ∷ [])
    ≡ Some (Conditional Count (Number 1) (Conditional (Number 2) (Number 3) (Number 4)))
conditions = refl
