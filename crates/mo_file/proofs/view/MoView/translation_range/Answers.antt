use Rattle.mo_file.proofs.Prelude.{arith}
use Rattle.mo_file.proofs.RisingKeys.{length-messages_of, map-messages_of-at, translation-stands}
use Rattle.mo_file.proofs.view.MoView.translation_range.Goals as goal

pub range_at-requires : goal.range_at-requires
range_at-requires c =
    let inside = rw (← c.self.view_is, length-messages_of) at c.requires in
    let read = c.self.invariant.read in
    omega (arith, inside, read.count, read.translations_inside)

pub returns : goal.returns
returns c =
    let inside = rw (← c.self.view_is, length-messages_of) at c.requires in
    let stands = translation-stands _ _ c.self.invariant _ (omega (arith, c.self.invariant.read.count)) in
    rw (← c.self.view_is, c.range_at.ensures.start, c.range_at.ensures.end)
    (_, map-messages_of-at _ _ (λ m. m.translation) _ inside, stands)
