use Rattle.plural_rule.proofs.Prelude.{ap, arith, drop, is_blank, nat_tests, prefix_len_is, sym, take_rest, ◌∙◌}
use Rattle.plural_rule.proofs.lexer.without_blanks.Goals as goal

pub returns-then-byte-ne9-clause-value : goal.returns-then-byte-ne9-clause-value
returns-then-byte-ne9-clause-value c =
    let text = c.args.text.now in
    take_rest text c.loop-index.index
    ∙ ap (λ n. drop n text) (sym
    (prefix_len_is is_blank text c.loop-index.index 0 (omega arith) c.loop-index.invariant
    (λ _. grind (arith, nat_tests))))

pub returns-clause-value : goal.returns-clause-value
returns-clause-value c =
    let text = c.args.text.now in
    take_rest text _
    ∙ ap (λ n. drop n text) (sym
    (prefix_len_is is_blank text _ 0 (omega arith) (λ k h. c.loop-index.invariant k (omega arith))
    (λ h. absurd (omega arith))))
