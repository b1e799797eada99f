use Rattle.plural_rule.proofs.Prelude.{ap, arith, is_ascii_digit, length, prefix_len_is, sym, take, take_all, ◌∙◌}
use Rattle.plural_rule.proofs.lexer.leading_digits.Goals as goal

pub returns-then-not-is_ascii_digit : goal.returns-then-not-is_ascii_digit
returns-then-not-is_ascii_digit c =
    ap (λ n. take n c.args.text.now)
    (sym (prefix_len_is is_ascii_digit c.args.text.now c.loop-index.index 0 (omega arith) c.loop-index.invariant
    (λ _. sym c.if-not-is_ascii_digit.ensures.value)))

pub returns : goal.returns
returns c =
    let text = c.args.text.now in
    sym (take_all (length text) text (omega arith))
    ∙ ap (λ n. take n text) (sym
    (prefix_len_is is_ascii_digit text (length text) 0 (omega arith) (λ k h. c.loop-index.invariant k (omega arith))
    (λ h. absurd (omega arith))))
