use Rattle.po_reader.proofs.Prelude.{filter, is_not_empty, map, ◌++◌, ◌≡◌}
use Rattle.po_reader.proofs.comment_texts.add_references.Given as goal

-- the elements so far are added
abbrev pub invariant-loop-element : goal.invariant-loop-element
invariant-loop-element l = l.list ≡ l.initial.list ++ filter is_not_empty (map (λ x. x.now) l.yielded)
