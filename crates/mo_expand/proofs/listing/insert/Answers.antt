use Rattle.mo_expand.proofs.Prelude.{ap, arith, key_cmp, key_of, length-take, messages_of_borrowed, rules, slice_set, sym, take, ◌+◌, ◌∙◌, ◌≤◌}
use Rattle.std.proofs.lemmas.Fn.{always_returns_same}
use Rattle.mo_expand.proofs.AddedMessages.{inserted, listed-found, listed-place}
use Rattle.mo_expand.proofs.listing.insert.Goals as goal

pub returns-in-Ok-clause-messages : goal.returns-in-Ok-clause-messages
returns-in-Ok-clause-messages c =
    let found = c.in-Ok.ensures.position
    (λ it. key_cmp (key_of it.original.now) (key_of c.args.added.original.now))
    (always_returns_same _ _ _ (λ a r q k. search rules)) in
    sym (listed-found _ c.args.added c.requires.rising c.in-Ok.field-0 c.in-Ok.ensures.bound (found c.args.added))

pub returns-in-Err-clause-messages : goal.returns-in-Err-clause-messages
returns-in-Err-clause-messages c =
    let found = c.in-Err.ensures.position
    (λ it. key_cmp (key_of it.original.now) (key_of c.args.added.original.now))
    (always_returns_same _ _ _ (λ a r q k. search rules)) in
    let inside = c.in-Err.ensures.bound in
    let low : c.in-Err.at ≤ c.args.count =
    omega (arith, inside, length-take c.args.count c.args.list.now, c.requires.room) in
    ap (λ l. messages_of_borrowed (take (c.args.count + 1) (slice_set l c.in-Err.at c.args.added)))
    c.copy_within.ensures.after
    ∙ inserted _ c.args.count c.in-Err.at c.args.added low c.requires.room
    (listed-place _ c.args.added c.requires.rising c.in-Err.at inside found)
