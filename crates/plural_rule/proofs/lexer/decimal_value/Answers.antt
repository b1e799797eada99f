use Rattle.plural_rule.proofs.Prelude.{arith, digits_value_more}
use Rattle.plural_rule.proofs.Tokens.{digit-value, digits_value-grows}
use Rattle.plural_rule.proofs.lexer.decimal_value.Goals as goal

pub overflow_sub-longer : goal.overflow_sub-longer
overflow_sub-longer c = omega
    (arith, digit-value c.args.digits.now c.loop-digit.digit-index c.requires c.loop-digit-test.true)

pub returns-then-longer : goal.returns-then-longer
returns-then-longer c small =
    let digit = digit-value c.args.digits.now c.loop-digit.digit-index c.requires c.loop-digit-test.true in
    let grows = digits_value-grows c.args.digits.now c.loop-digit.digit-index c.loop-digit-test.true in
    omega (arith, grows, digit, c.loop-digit.invariant.value, c.if-longer.true)

pub loop-digit-preserved : goal.loop-digit-preserved
loop-digit-preserved c =
    let digit = digit-value c.args.digits.now c.loop-digit.digit-index c.requires c.loop-digit-test.true in
    let more = digits_value_more 10 c.args.digits.now c.loop-digit.digit-index c.loop-digit-test.true in
    record { value = omega (arith, more, digit, c.loop-digit.invariant.value); fits = omega (arith, c.if-longer.false) }
