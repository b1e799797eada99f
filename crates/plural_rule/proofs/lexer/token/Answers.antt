use Rattle.plural_rule.proofs.Prelude.{ap, arith, digits_value, is_ascii_digit, sym, ◌^◌, ◌∙◌, ◌≤◌}
use Rattle.plural_rule.proofs.Tokens.{AllDigits-take_while, double-token, first_byte-get, numeral-none, numeral-token}
use Rattle.plural_rule.proofs.lexer.token.Goals as goal

pub decimal_value-requires : goal.decimal_value-requires
decimal_value-requires c = rw c.leading_digits-digits.ensures (AllDigits-take_while c.args.text.now)

pub returns-in-Some : goal.returns-in-Some
returns-in-Some c =
    let first = ap is_ascii_digit (first_byte-get c.args.text.now c.requires) ∙ sym c.is_ascii_digit.ensures.value
    ∙ c.if-is_ascii_digit.true in
    rw c.leading_digits-digits.ensures
    (numeral-token c.args.text.now c.in-Some.value first
    (c.in-Some.ensures.1 ∙ ap (digits_value 10) c.leading_digits-digits.ensures))

pub returns-in-None : goal.returns-in-None
returns-in-None c =
    let first = ap is_ascii_digit (first_byte-get c.args.text.now c.requires) ∙ sym c.is_ascii_digit.ensures.value
    ∙ c.if-is_ascii_digit.true in
    let large : 2 ^ 64 ≤ digits_value 10 c.leading_digits-digits.result.now = grind (arith, c.in-None.ensures) in
    numeral-none c.args.text.now first (rw c.leading_digits-digits.ensures at large)

pub returns-in-Some-double_at : goal.returns-in-Some-double_at
returns-in-Some-double_at c =
    double-token c.args.text.now c.in-Some-double_at.operator
    (sym c.is_ascii_digit.ensures.value ∙ c.if-is_ascii_digit.false) c.in-Some-double_at.ensures
