-- The operators of a plural expression: how tight they bind, what they compute, and their numbers.
-- GNU gettext manual, "Plural forms"; C standard, "Expressions", over unsigned numbers of 64 bits.
use Rattle.std.specs.Prelude.{ℕ, ◌^◌, ◌≡◌, ◌+◌, ◌-◌, ◌*◌, ◌/◌, ◌%◌, Bool, true, false, nat_lt, if◌then◌else◌, refl, not, nat_le, ◌==◌, Option, Some, None}
use Rattle.plural_rule.specs.declared.operator.Operator.{Operator}
use Rattle.plural_rule.specs.declared.operator.Operator.TheVariants.{Or, And, Equal, NotEqual, Less, Greater, AtMost, AtLeast, Add, Subtract, Remainder, Multiply, Divide}

-- the level of an operator: the higher, the tighter it binds; the last line is `*`, `/` and `%`
abbrev pub level : Operator → ℕ
level Or = 1
level And = 2
level Equal = 3
level NotEqual = 3
level Less = 4
level Greater = 4
level AtMost = 4
level AtLeast = 4
level Add = 5
level Subtract = 5
level op = 6

-- the second operand isn't always needed
abbrev pub is_lazy : Operator → Bool
is_lazy Or = true
is_lazy And = true
is_lazy _ = false

-- the number that stands for a truth value
abbrev pub truth : Bool → ℕ
truth true = 1
truth false = 0

-- whether the second operand is evaluated, where the first one's value is x: of `||` (`Or`) if x is
-- 0, of `&&` (`And`) if it isn't, and of every other operator
abbrev pub needs_right : Operator → ℕ → Bool
needs_right Or x = x == 0
needs_right And x = not (x == 0)
needs_right _ x = true

-- the value where the second operand isn't evaluated: of `||` 1, of `&&` 0
abbrev pub short_circuit_value : Operator → ℕ
short_circuit_value Or = 1
short_circuit_value _ = 0

-- the value where both operands are evaluated, to x and y: a truth value, or a number modulo 2^64; a
-- quotient and a remainder by 0 are undefined
abbrev pub combined : Operator → ℕ → ℕ → Option ℕ
combined Or x y = Some (truth (not (y == 0)))
combined And x y = Some (truth (not (y == 0)))
combined Equal x y = Some (truth (x == y))
combined NotEqual x y = Some (truth (not (x == y)))
combined Less x y = Some (truth (nat_lt x y))
combined Greater x y = Some (truth (nat_lt y x))
combined AtMost x y = Some (truth (nat_le x y))
combined AtLeast x y = Some (truth (nat_le y x))
combined Add x y = Some ((x + y) % 2 ^ 64)
combined Subtract x y = Some ((x + (2 ^ 64 - y)) % 2 ^ 64)
combined Multiply x y = Some ((x * y) % 2 ^ 64)
combined Divide x y = if y == 0 then None else Some (x / y)
combined Remainder x y = if y == 0 then None else Some (x % y)

-- the number of an operator
abbrev pub operator_code : Operator → ℕ
operator_code Or = 0
operator_code And = 1
operator_code Equal = 2
operator_code NotEqual = 3
operator_code Less = 4
operator_code Greater = 5
operator_code AtMost = 6
operator_code AtLeast = 7
operator_code Add = 8
operator_code Subtract = 9
operator_code Multiply = 10
operator_code Divide = 11
operator_code Remainder = 12

-- the operator of a number
abbrev pub operator_of : ℕ → Operator
operator_of code =
    if code == 0 then Or
    else if code == 1 then And
    else if code == 2 then Equal
    else if code == 3 then NotEqual
    else if code == 4 then Less
    else if code == 5 then Greater
    else if code == 6 then AtMost
    else if code == 7 then AtLeast
    else if code == 8 then Add
    else if code == 9 then Subtract
    else if code == 10 then Multiply
    else if code == 11 then Divide
    else Remainder

pub operator_of-code : (op : Operator) → operator_of (operator_code op) ≡ op
operator_of-code Or = refl
operator_of-code _ = refl
