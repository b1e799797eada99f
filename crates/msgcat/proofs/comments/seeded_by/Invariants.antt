use Rattle.msgcat.proofs.Prelude.{digest_of, flat_map, named_entries, take, texts_of, ◌≡◌}
use Rattle.msgcat.proofs.comments.seeded_by.Given as goal

-- the texts of the definitions so far are digested
abbrev pub invariant-loop-definition : goal.invariant-loop-definition
invariant-loop-definition l =
    l.digest ≡ digest_of (flat_map (λ d. texts_of l.kind d.entry)
    (named_entries (take l.definition-index l.definitions)))
