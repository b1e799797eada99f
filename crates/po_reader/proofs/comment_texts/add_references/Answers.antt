use Rattle.po_reader.proofs.Prelude.{ap, filter, is_blank, is_not_empty, rules, tests, ◌++◌, ◌∙◌}
use Rattle.po_reader.proofs.CommentFields.{all_parts}
use Rattle.po_reader.proofs.comment_texts.add_references.Goals as goal

pub returns : goal.returns
returns c =
    let split = c.split-element-items.ensures in
    c.loop-element.invariant ∙ ap (λ parts. c.args.list.now ++ filter is_not_empty parts)
    (all_parts _ _ _ _ c.loop-element.yielded c.loop-element.yielded_by c.in-None.is c.next.ensures.steps
    c.into_iter-element-iterator.ensures.into_iter_gives is_blank c.args.text.now split.rest split.done split.closure
    (λ x b q k. search (rules, tests)))
