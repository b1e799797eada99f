use Rattle.po_reader.proofs.Prelude.{filter, fold, is_not_empty, map, trimmed, with_flag, ◌≡◌}
use Rattle.po_reader.proofs.comment_texts.add_flags.Given as goal

-- the flags so far were seen
abbrev pub invariant-loop-element : goal.invariant-loop-element
invariant-loop-element l =
    l.seen ≡ fold with_flag l.initial.seen (filter is_not_empty (map trimmed (map (λ x. x.now) l.yielded)))
