use Rattle.po_syntax.proofs.Prelude.{YieldsList-from_slice, YieldsList-from_take_while, count_from_yields_List, is_blank, length-prefix_len, refl, rules, tests, ◌∙◌}
use Rattle.po_syntax.proofs.token.skip_blanks.Goals as goal

pub returns : goal.returns
returns c =
    let text = c.args.text.now in
    let count = count_from_yields_List c.take_while.result _ c.count-count.ensures.ran
    (YieldsList-from_take_while _ is_blank (YieldsList-from_slice text cc) c.take_while.ensures.closure
    c.take_while.ensures.done (λ x b q k. search (rules, tests)))
    ∙ length-prefix_len is_blank text in
    rw (c.split_at.ensures.back, count) refl
