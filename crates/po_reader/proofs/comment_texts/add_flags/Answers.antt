use Rattle.po_reader.proofs.Prelude.{ap, filter, fold, is_not_empty, map, rules, tests, trimmed, with_flag, ◌∙◌}
use Rattle.po_reader.proofs.CommentFields.{all_parts, is_comma}
use Rattle.po_reader.proofs.comment_texts.add_flags.Goals as goal

pub returns : goal.returns
returns c =
    let split = c.split-element-items.ensures in
    c.loop-element.invariant
    ∙ ap (λ parts. fold with_flag c.args.seen.now (filter is_not_empty (map trimmed parts)))
    (all_parts _ _ _ _ c.loop-element.yielded c.loop-element.yielded_by c.in-None.is c.next.ensures.steps
    c.into_iter-element-iterator.ensures.into_iter_gives is_comma c.args.text.now split.rest split.done split.closure
    (λ x b q k. search (rules, tests)))
