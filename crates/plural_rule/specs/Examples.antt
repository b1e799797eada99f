-- What the definitions of this crate say of rules that were worked out by hand (GNU gettext manual,
-- "Plural forms"; C standard, "Expressions"). tests/mutants/plural_rule/definitions has a wrong form of
-- each definition, which one of these refuses.
use Rattle.std.specs.Prelude.{◌≡◌, ◌≢◌, refl, ℕ, true, false, List, [], ◌∷◌, ◌++◌, Option, Some, None, length, map, filter, codes, unwrap_or}
use Rattle.std.specs.List.{range_with_len}
use Rattle.std.proofs.Common.{arith, ap}
use Rattle.plural_rule.specs.declared.operator.Operator.{Operator}
use Rattle.plural_rule.specs.declared.operator.Operator.TheVariants.{Or, And, Equal, NotEqual, Less, Greater, Remainder, AtMost, AtLeast, Add, Subtract, Multiply, Divide}
use Rattle.plural_rule.specs.declared.token.Token.TheVariants.{Count as CountToken, Number as NumberToken, Binary as BinaryToken}
use Rattle.plural_rule.specs.declared.instruction.Instruction.{Instruction}
use Rattle.plural_rule.specs.declared.instruction.Action.TheVariants.{Count as CountAction, Number as NumberAction, Wide, Not as NotAction, Binary as BinaryAction, Branch, Choose, Jump}
use Rattle.plural_rule.specs.declared.rule.Source.TheVariants.{Header, Default}
use Rattle.plural_rule.specs.declared.rule.Reason.TheVariants.{NoNumber, NoExpression, TooLong}
use Rattle.plural_rule.specs.declared.rule.ParsedRule.{ParsedRule}
use Rattle.plural_rule.specs.Evaluator.{Tree, Count, Number, Not, Binary, Conditional, nodes, binary_value, chosen, value, visited_right, visited, Evaluates, count as of_count, numeral as of_numeral, difference}
use Rattle.plural_rule.specs.Operator.{truth, needs_right, short_circuit_value, combined, level, operator_code, operator_of}
use Rattle.plural_rule.specs.Lexer.{is_blank, operator_bytes, IsSpelling, IsLongest, Lexes, end, blank, token, without_blanks}
use Rattle.plural_rule.specs.Parser.{Spells, tighter, binary, count, numeral, Spelt}
use Rattle.plural_rule.specs.Header.{after_first, digits_number, leading_number, nplurals_of, is_end, expression_of}
use Rattle.plural_rule.specs.Instruction.{begins, action_of, program, tree_of}
use Rattle.plural_rule.specs.Rule.{RuleView, program_in, rule_in, expression_limit, default_rule, IsReadable, IsReason, Gives, IsRuleOf}

abbrev pub operators : List Operator
operators =
    Or ∷ And ∷ Equal ∷ NotEqual ∷ Less ∷ Greater ∷ AtMost ∷ AtLeast ∷ Add ∷ Subtract ∷ Multiply ∷ Divide ∷ Remainder
    ∷ []

-- `n != 1`, and the manual's rule for Polish: `n==1 ? 0 : n%10>=2 && n%10<=4 && (n%100<10 || n%100>=20)
-- ? 1 : 2`
abbrev pub not_one : Tree
not_one = Binary NotEqual Count (Number 1)

abbrev pub last_digits : ℕ → Tree
last_digits base = Binary Remainder Count (Number base)

abbrev pub polish : Tree
polish =
    Conditional (Binary Equal Count (Number 1)) (Number 0) (Conditional (Binary And
    (Binary And (Binary AtLeast (last_digits 10) (Number 2)) (Binary AtMost (last_digits 10) (Number 4)))
    (Binary Or (Binary Less (last_digits 100) (Number 10)) (Binary AtLeast (last_digits 100) (Number 20))))
    (Number 1) (Number 2))

pub operators_are_computed :
    (map (λ op. combined op 7 2) operators ≡ Some 1 ∷ Some 1 ∷ Some 0 ∷ Some 1 ∷ Some 0 ∷ Some 1 ∷ Some 0 ∷ Some 1
    ∷ Some 9 ∷ Some 5 ∷ Some 14 ∷ Some 3 ∷ Some 1 ∷ [])
    × (combined Subtract 0 1 ∷ combined Add 18446744073709551615 2 ∷ combined Divide 1 0 ∷ combined Remainder 1 0 ∷ []
    ≡ Some 18446744073709551615 ∷ Some 1 ∷ None ∷ None ∷ [])
operators_are_computed = (refl, refl)

pub operands_are_needed : (truth true ∷ truth false ∷ [] ≡ 1 ∷ 0 ∷ [])
    × (map (λ op. needs_right op 0) (Or ∷ And ∷ Add ∷ []) ++ map (λ op. needs_right op 5) (Or ∷ And ∷ Add ∷ []) ≡ true
    ∷ false ∷ true ∷ false ∷ true ∷ true ∷ [])
    × (map short_circuit_value (Or ∷ And ∷ []) ≡ 1 ∷ 0 ∷ [])
    × (binary_value Or (Some 3) None ∷ binary_value And (Some 0) None ∷ binary_value Add (Some 3) None
    ∷ binary_value And None (Some 3) ∷ [] ≡ Some 1 ∷ Some 0 ∷ None ∷ None ∷ [])
    × (chosen {A = ℕ} (Some 5) 1 2 3 ∷ chosen (Some 0) 1 2 3 ∷ chosen None 1 2 3 ∷ [] ≡ 1 ∷ 2 ∷ 3 ∷ [])
operands_are_needed = (refl, refl, refl, refl, refl)

-- at 1 the condition and the first case: 1 + 3 + 1; at 0 `n%10>=2` fails, and nothing after it is needed
-- each operator at operands of one node: three are visited, but where the first operand decides
pub polish_is_evaluated : (nodes polish ∷ nodes (Not not_one) ∷ [] ≡ 31 ∷ 4 ∷ [])
    × (map (value polish) (0 ∷ 1 ∷ 2 ∷ 5 ∷ 12 ∷ 22 ∷ 112 ∷ []) ≡ Some 2 ∷ Some 0 ∷ Some 1 ∷ Some 2 ∷ Some 2 ∷ Some 1
    ∷ Some 2 ∷ [])
    × (visited_right Or (Some 1) 5 ∷ visited_right Or (Some 0) 5 ∷ visited_right Divide None 5 ∷ [] ≡ 0 ∷ 5 ∷ 0 ∷ [])
    × (map (visited polish) (1 ∷ 0 ∷ []) ++ visited (Not (last_digits 0)) 7 ∷ [] ≡ 5 ∷ 13 ∷ 4 ∷ [])
    × (map (λ op. visited (Binary op Count (Number 0)) 5) operators ≡ 2 ∷ 3 ∷ 3 ∷ 3 ∷ 3 ∷ 3 ∷ 3 ∷ 3 ∷ 3 ∷ 3 ∷ 3 ∷ 3 ∷ 3
    ∷ [])
polish_is_evaluated = (refl, refl, refl, refl, refl)

some_bytes : codes "010" ≢ []
some_bytes e = absurd (omega (arith, ap length e))

-- a numeral is decimal, also with a 0 first
pub numeral_with_zero : IsSpelling (NumberToken 10) (codes "010")
numeral_with_zero = (some_bytes, (omega arith, (omega arith, (omega arith, tt))), refl)

some_more : codes "=" ≢ []
some_more e = absurd (omega (arith, ap length e))

-- `<` isn't the longest token of `<=1`
pub less_is_not_longest : IsLongest (codes "<") (codes "=1") → ⊥
less_is_not_longest longest = longest (BinaryToken AtMost) (codes "=") (codes "1") refl some_more refl

longest_at_end : IsLongest (codes "n") []
longest_at_end t [] after e some spelt = some refl
longest_at_end t (x ∷ more) after e some spelt = absurd (omega (arith, ap length e))

pub count_is_lexed : Lexes (codes " \tn") (CountToken ∷ [])
count_is_lexed = blank refl (blank refl (token CountToken (codes "n") refl longest_at_end end))

pub operators_are_read :
    (map operator_bytes operators ≡ codes "||" ∷ codes "&&" ∷ codes "==" ∷ codes "!=" ∷ codes "<" ∷ codes ">"
    ∷ codes "<=" ∷ codes ">=" ∷ codes "+" ∷ codes "-" ∷ codes "*" ∷ codes "/" ∷ codes "%" ∷ [])
    × (map level operators ≡ 1 ∷ 2 ∷ 3 ∷ 3 ∷ 4 ∷ 4 ∷ 4 ∷ 4 ∷ 5 ∷ 5 ∷ 6 ∷ 6 ∷ 6 ∷ [])
operators_are_read = (refl, refl)

-- `n-1-2` is `(n-1)-2`
pub groups_to_the_left : Spells 5
    (CountToken ∷ BinaryToken Subtract ∷ NumberToken 1 ∷ BinaryToken Subtract ∷ NumberToken 2 ∷ [])
    (Binary Subtract (Binary Subtract Count (Number 1)) (Number 2))
groups_to_the_left =
    binary {xs = CountToken ∷ BinaryToken Subtract ∷ NumberToken 1 ∷ []} Subtract
    (binary {xs = CountToken ∷ []} Subtract (tighter (tighter count)) (tighter (numeral 1 (omega arith))))
    (tighter (numeral 2 (omega arith)))

pub count_is_spelt : Spelt Count (codes " \tn")
count_is_spelt = (
  CountToken ∷ [],
  count_is_lexed,
  tighter (tighter (tighter (tighter (tighter (tighter (tighter count)))))),
)

pub fields_are_found : (filter is_blank (range_with_len 0 256) ≡ 9 ∷ 32 ∷ [])
    × (after_first (codes "plural=") (codes "nplurals=2; plural=n;") ≡ Some (codes "n;"))
    × (without_blanks (codes " \t n ") ≡ codes "n ")
    × (digits_number (codes "010") ∷ digits_number [] ∷ [] ≡ Some 10 ∷ None ∷ [])
    × (leading_number (codes " 3; plural=n") ∷ leading_number (codes "n3") ∷ [] ≡ Some 3 ∷ None ∷ [])
    × (nplurals_of (codes "Language: pl\nPlural-Forms: nplurals= 3; plural=7;\n") ≡ Some 3)
    × (filter is_end (range_with_len 0 256) ≡ 10 ∷ 59 ∷ [])
    × (expression_of (codes "Plural-Forms: nplurals=2; plural= n != 1;\n") ≡ Some (codes " n != 1"))
fields_are_found = (refl, refl, refl, refl, refl, refl, refl, refl)

abbrev pub rule_of_header : RuleView
rule_of_header = record { source = Header; nplurals = 2; tree = not_one }

pub default_and_limit : (expression_limit ≡ 4096)
    × (default_rule NoExpression ≡ record { source = Default NoExpression; nplurals = 2; tree = not_one })
default_and_limit = (refl, refl)

-- an expression of three bytes, within a limit of three
pub one_form_is_readable : IsReadable 3 (codes "nplurals=1; plural= \tn;") 1 Count
one_form_is_readable = record {
  text = codes " \tn";
  nplurals_is = refl;
  nplurals_fits = omega arith;
  text_is = refl;
  text_fits = omega arith;
  spelt = count_is_spelt;
}

one_is_there : ◌≢◌ {A = Option ℕ} (Some 1) None
one_is_there e = absurd (omega (arith, ap (λ o. unwrap_or o 0) e))

pub too_long_for_two : IsReason 2 (codes "nplurals=1; plural=n+n;") TooLong
too_long_for_two = (one_is_there, codes "n+n", refl, omega arith)

pub nothing_gives_default : Gives 4096 [] (default_rule NoNumber) (Default NoNumber)
nothing_gives_default = (refl, refl)

pub rule_of_nothing : IsRuleOf 4096 [] (default_rule NoNumber)
rule_of_nothing = (refl, refl)

pub operators_have_numbers : (map operator_code operators ≡ range_with_len 0 13)
    × (map operator_of (range_with_len 0 13) ≡ operators)
operators_have_numbers = (refl, refl)

abbrev pub instruction : ℕ → ℕ → ℕ → ℕ → Instruction
instruction kind operator skip number = record { kind = kind; operator = operator; count = skip; number = number }

-- `!n ? 4294967298 : n && 3`, which has each kind of node, and a number of 2^32 + 2
abbrev pub of_all : Tree
of_all = Conditional (Not Count) (Number 4294967298) (Binary And Count (Number 3))

-- `n`, `!`, `?`, the two halves of the number, `:`, `n`, `&&` before its second operand, 3, `&&`: three
-- nodes begin with the first one; `?` skips the number and `:`, `:` the four after it, and `&&` two
abbrev pub instructions_of_all : List Instruction
instructions_of_all =
    instruction 0 0 3 0 ∷ instruction 3 0 0 0 ∷ instruction 6 0 3 0 ∷ instruction 2 0 1 1 ∷ instruction 7 0 0 2
    ∷ instruction 7 0 4 0 ∷ instruction 0 0 2 0 ∷ instruction 5 1 2 0 ∷ instruction 1 0 1 3 ∷ instruction 4 1 0 0 ∷ []

pub program_of_all : program 0 of_all ++ program 4 Count ≡ instructions_of_all ++ instruction 0 0 5 0 ∷ []
program_of_all = refl

pub tree_of_all : tree_of instructions_of_all ≡ of_all
unfolding tree_of
tree_of_all = refl

abbrev pub parsed : ParsedRule
parsed = record { source = Header; nplurals = 2; instruction_count = 10 }

-- an array of eleven instructions, of which the program takes ten
abbrev pub array_of_all : List Instruction
array_of_all = instructions_of_all ++ instruction 0 0 1 0 ∷ []

pub rule_is_read_with_array : (program_in parsed array_of_all ≡ instructions_of_all)
    × (rule_in parsed array_of_all ≡ record { source = Header; nplurals = 2; tree = of_all })
unfolding tree_of
rule_is_read_with_array = (refl, refl)

pub instructions_are_read : (map begins instructions_of_all ≡ 3 ∷ 0 ∷ 0 ∷ 1 ∷ 0 ∷ 0 ∷ 2 ∷ 0 ∷ 1 ∷ 0 ∷ [])
    × (map action_of instructions_of_all ≡ CountAction ∷ NotAction ∷ Choose 3 ∷ Wide 1 ∷ Jump 0 ∷ Jump 4 ∷ CountAction
    ∷ Branch And 2 ∷ NumberAction 3 ∷ BinaryAction And ∷ [])
instructions_are_read = (refl, refl)

-- `n - 6` at 5 is 2^64 - 1
pub difference_wraps : Evaluates 5 (Binary Subtract Count (Number 6)) 18446744073709551615
difference_wraps = difference 5 6 of_count (of_numeral 6)
