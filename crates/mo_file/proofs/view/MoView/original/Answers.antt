use Rattle.mo_file.proofs.Prelude.{Some, ap, arith, ◌∙◌}
use Rattle.mo_file.proofs.RisingKeys.{length-messages_of, map-messages_of-at, original-stands, string-within}
use Rattle.mo_file.proofs.view.MoView.original.Goals as goal

pub range_at-requires : goal.range_at-requires
range_at-requires c =
    let inside = rw (← c.self.view_is, length-messages_of) at c.requires.inside in
    let read = c.self.invariant.read in
    omega (arith, inside, read.count, read.originals_inside)

pub slice_bounds-result-end : goal.slice_bounds-result-end
slice_bounds-result-end c =
    let inside = rw (← c.self.view_is, length-messages_of) at c.requires.inside in
    let stands = original-stands _ _ c.self.invariant c.args.i (omega (arith, c.self.invariant.read.count)) in
    omega (arith, string-within _ _ _ _ stands, c.range_at.ensures.end)

pub returns-clause-value : goal.returns-clause-value
returns-clause-value c =
    let inside = rw (← c.self.view_is, length-messages_of) at c.requires.inside in
    let stands = original-stands _ _ c.self.invariant c.args.i (omega (arith, c.self.invariant.read.count)) in
    rw (← c.self.view_is, c.range_at.ensures.start, c.range_at.ensures.end)
    (map-messages_of-at _ _ (λ m. m.original) _ inside ∙ ap Some stands.text)
