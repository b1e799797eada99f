use Rattle.plural_rule.proofs.Prelude.{digits_value, take, ◌<◌, ◌^◌, ◌≡◌}
use Rattle.plural_rule.proofs.lexer.decimal_value.Given as goal

abbrev pub invariant-loop-digit : goal.invariant-loop-digit
invariant-loop-digit l =
    record { value : l.value ≡ digits_value 10 (take l.digit-index l.digits); fits : l.value < 2 ^ 64 }
