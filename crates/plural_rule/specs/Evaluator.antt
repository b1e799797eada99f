-- A plural expression as a tree, its value, and how many of its nodes an evaluation visits. A node
-- is `n`, a numeral or an operator, `?:` as one; parentheses are none. A visit is one step.
-- GNU gettext manual, "Plural forms"; C standard, "Expressions", over unsigned numbers of 64 bits.
use Rattle.std.specs.Prelude.{ℕ, ◌+◌, ◌-◌, ◌*◌, ◌/◌, ◌%◌, ◌^◌, ◌==◌, Option, Some, None, option_and_then, option_map, if◌then◌else◌, ◌≡◌, ◌≢◌, ◌<◌, ◌≤◌}
use Rattle.plural_rule.specs.declared.operator.Operator.{Operator}
use Rattle.plural_rule.specs.declared.operator.Operator.TheVariants.{Or, And, Equal, NotEqual, Less, Greater, Remainder, AtMost, AtLeast, Add, Subtract, Multiply, Divide}
use Rattle.plural_rule.specs.Operator.{truth, needs_right, short_circuit_value, combined}

-- an expression: `n`, for which the count stands, a numeral, `!a`, an operator with two operands,
-- or `a ? b : c`
pub data Tree : Type 0 where
  Count : Tree
  Number : ℕ → Tree
  Not : Tree → Tree
  Binary : Operator → Tree → Tree → Tree
  Conditional : Tree → Tree → Tree → Tree

-- how many nodes a tree has
abbrev pub nodes : Tree → ℕ
nodes Count = 1
nodes (Number v) = 1
nodes (Not a) = 1 + nodes a
nodes (Binary op a b) = 1 + nodes a + nodes b
nodes (Conditional a b c) = 1 + nodes a + nodes b + nodes c

-- the value of an operator with two operands, from the values of the first and of the second, each
-- of which may be undefined
abbrev pub binary_value : Operator → Option ℕ → Option ℕ → Option ℕ
binary_value op None right = None
binary_value op (Some x) right =
    if needs_right op x then option_and_then (combined op x) right else Some (short_circuit_value op)

-- `then_case` where the condition isn't 0, `else_case` where it is, and `undefined` where it has no
-- value
abbrev pub chosen : {A : Type 0} → Option ℕ → A → A → A → A
chosen None then_case else_case undefined = undefined
chosen (Some x) then_case else_case undefined = if x == 0 then else_case else then_case

-- the value at a count, or none where it is undefined: a part that it needs divides by 0; where the
-- count and all numerals are below 2^64, it is so too
abbrev pub value : Tree → ℕ → Option ℕ
value Count n = Some n
value (Number v) n = Some v
value (Not a) n = option_map (λ x. truth (x == 0)) (value a n)
value (Binary op a b) n = binary_value op (value a n) (value b n)
value (Conditional a b c) n = chosen (value a n) (value b n) (value c n) None

-- how many nodes of a second operand are visited, by the value of the first: `steps` if the second
-- is needed
abbrev pub visited_right : Operator → Option ℕ → ℕ → ℕ
visited_right op None steps = 0
visited_right op (Some x) steps = if needs_right op x then steps else 0

-- how many nodes the evaluation at a count visits: operands from the left, none that isn't needed,
-- and none after an undefined one
abbrev pub visited : Tree → ℕ → ℕ
visited Count n = 1
visited (Number v) n = 1
visited (Not a) n = 1 + visited a n
visited (Binary op a b) n = 1 + visited a n + visited_right op (value a n) (visited b n)
visited (Conditional a b c) n = 1 + visited a n + chosen (value a n) (visited b n) (visited c n) 0

-- at the count n the expression has the value
pub data Evaluates (n : ℕ) : Tree → ℕ → Type 0 where
  count : Evaluates n Count n
  numeral : (v : ℕ) → Evaluates n (Number v) v
  not_zero : {a : Tree} (x : ℕ) → x ≡ 0 → Evaluates n a x → Evaluates n (Not a) 1
  not_other : {a : Tree} (x : ℕ) → x ≢ 0 → Evaluates n a x → Evaluates n (Not a) 0
  or_first : {a b : Tree} (x : ℕ) → x ≢ 0 → Evaluates n a x → Evaluates n (Binary Or a b) 1
  or_second : {a b : Tree} (x y : ℕ) → x ≡ 0 → y ≢ 0 → Evaluates n a x → Evaluates n b y
      → Evaluates n (Binary Or a b) 1
  or_neither : {a b : Tree} (x y : ℕ) → x ≡ 0 → y ≡ 0 → Evaluates n a x → Evaluates n b y
      → Evaluates n (Binary Or a b) 0
  and_first : {a b : Tree} (x : ℕ) → x ≡ 0 → Evaluates n a x → Evaluates n (Binary And a b) 0
  and_second : {a b : Tree} (x y : ℕ) → x ≢ 0 → y ≡ 0 → Evaluates n a x → Evaluates n b y
      → Evaluates n (Binary And a b) 0
  and_both : {a b : Tree} (x y : ℕ) → x ≢ 0 → y ≢ 0 → Evaluates n a x → Evaluates n b y
      → Evaluates n (Binary And a b) 1
  equal : {a b : Tree} (x y : ℕ) → x ≡ y → Evaluates n a x → Evaluates n b y → Evaluates n (Binary Equal a b) 1
  equal_not : {a b : Tree} (x y : ℕ) → x ≢ y → Evaluates n a x → Evaluates n b y → Evaluates n (Binary Equal a b) 0
  unequal : {a b : Tree} (x y : ℕ) → x ≢ y → Evaluates n a x → Evaluates n b y → Evaluates n (Binary NotEqual a b) 1
  unequal_not : {a b : Tree} (x y : ℕ) → x ≡ y → Evaluates n a x → Evaluates n b y
      → Evaluates n (Binary NotEqual a b) 0
  less : {a b : Tree} (x y : ℕ) → x < y → Evaluates n a x → Evaluates n b y → Evaluates n (Binary Less a b) 1
  less_not : {a b : Tree} (x y : ℕ) → y ≤ x → Evaluates n a x → Evaluates n b y → Evaluates n (Binary Less a b) 0
  greater : {a b : Tree} (x y : ℕ) → y < x → Evaluates n a x → Evaluates n b y → Evaluates n (Binary Greater a b) 1
  greater_not : {a b : Tree} (x y : ℕ) → x ≤ y → Evaluates n a x → Evaluates n b y
      → Evaluates n (Binary Greater a b) 0
  at_most : {a b : Tree} (x y : ℕ) → x ≤ y → Evaluates n a x → Evaluates n b y → Evaluates n (Binary AtMost a b) 1
  at_most_not : {a b : Tree} (x y : ℕ) → y < x → Evaluates n a x → Evaluates n b y → Evaluates n (Binary AtMost a b) 0
  at_least : {a b : Tree} (x y : ℕ) → y ≤ x → Evaluates n a x → Evaluates n b y → Evaluates n (Binary AtLeast a b) 1
  at_least_not : {a b : Tree} (x y : ℕ) → x < y → Evaluates n a x → Evaluates n b y
      → Evaluates n (Binary AtLeast a b) 0
  sum : {a b : Tree} (x y : ℕ) → Evaluates n a x → Evaluates n b y → Evaluates n (Binary Add a b) ((x + y) % 2 ^ 64)
  difference : {a b : Tree} (x y : ℕ) → Evaluates n a x → Evaluates n b y
      → Evaluates n (Binary Subtract a b) ((x + (2 ^ 64 - y)) % 2 ^ 64)
  product : {a b : Tree} (x y : ℕ) → Evaluates n a x → Evaluates n b y
      → Evaluates n (Binary Multiply a b) ((x * y) % 2 ^ 64)
  quotient : {a b : Tree} (x y : ℕ) → y ≢ 0 → Evaluates n a x → Evaluates n b y
      → Evaluates n (Binary Divide a b) (x / y)
  remainder : {a b : Tree} (x y : ℕ) → y ≢ 0 → Evaluates n a x → Evaluates n b y
      → Evaluates n (Binary Remainder a b) (x % y)
  then_case : {a b c : Tree} (x v : ℕ) → x ≢ 0 → Evaluates n a x → Evaluates n b v → Evaluates n (Conditional a b c) v
  else_case : {a b c : Tree} (x v : ℕ) → x ≡ 0 → Evaluates n a x → Evaluates n c v → Evaluates n (Conditional a b c) v
