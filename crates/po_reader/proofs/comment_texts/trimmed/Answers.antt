use Rattle.po_reader.proofs.Prelude.{is_blank, length-prefix_len, refl, reverse, rules, tests, ◌∙◌}
use Rattle.std.proofs.lemmas.Iterator.Adapters.{YieldsList-from_rev_slice}
use Rattle.std.proofs.lemmas.Iterator.Consumers.{count_from_yields_List}
use Rattle.std.proofs.lemmas.Iterator.Search.{YieldsList-from_take_while}
use Rattle.po_reader.proofs.comment_texts.trimmed.Goals as goal

pub returns : goal.returns
returns c =
    let rest = c.skip_blanks-rest.result.now in
    let after = count_from_yields_List c.take_while.result _ c.count-after.ensures.ran
    (YieldsList-from_take_while _ is_blank (YieldsList-from_rev_slice rest cc) c.take_while.ensures.closure
    c.take_while.ensures.done (λ x b q k. search (rules, tests)))
    ∙ length-prefix_len is_blank (reverse rest) in
    rw (c.split_at.ensures.front, after, c.skip_blanks-rest.ensures) refl
