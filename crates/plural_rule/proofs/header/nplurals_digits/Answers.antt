use Rattle.plural_rule.proofs.Prelude.{ap, digits_number, is_ascii_digit, leading_number, length, rules, sym, take_while, without_blanks, ◌<◌, ◌∙◌, ◌≡◌}
use Rattle.std.specs.Prelude.{option_and_then}
use Rattle.plural_rule.proofs.Tokens.{AllDigits-take_while, digits_number-some}
use Rattle.plural_rule.proofs.header.nplurals_digits.Goals as goal

pub returns-else-is_empty : goal.returns-else-is_empty
returns-else-is_empty c =
    let some : 0 < length c.leading_digits-digits.result.now = search rules in
    let digits : c.leading_digits-digits.result.now ≡ take_while is_ascii_digit (without_blanks c.in-Some.rest.now) =
    c.leading_digits-digits.ensures ∙ ap (take_while is_ascii_digit) c.without_blanks.ensures.value in (
      rw digits (AllDigits-take_while (without_blanks c.in-Some.rest.now)),
      ap (option_and_then leading_number) c.in-Some.ensures ∙ ap digits_number (sym digits) ∙ digits_number-some _ some,
    )
