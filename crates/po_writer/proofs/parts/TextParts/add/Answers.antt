use Rattle.po_writer.proofs.Prelude.{TextParts, [], on_ok_weaker, refl, sym, ◌∷◌}
use Rattle.po_writer.proofs.WrittenLists.{added_parts, live_added, obsolete_added}
use Rattle.po_writer.proofs.parts.TextParts.add.Goals as goal

pub returns-then-obsolete-clause-added : goal.returns-then-obsolete-clause-added
returns-then-obsolete-clause-added c =
    let new : TextParts = record { live = c.args.self.now.live; obsolete = c.push_separated.new.out } in
    on_ok_weaker c.push_separated.result
    (λ more. obsolete_added c.args.entry.now c.args.self.now new (sym c.if-obsolete.ensures) refl more)
    c.push_separated.ensures.appended

pub returns-then-obsolete-clause-parts : goal.returns-then-obsolete-clause-parts
returns-then-obsolete-clause-parts c =
    let new : TextParts = record { live = c.args.self.now.live; obsolete = c.push_separated.new.out } in
    on_ok_weaker c.push_separated.result
    (λ more before are. added_parts before (c.args.entry.now ∷ []) c.args.self.now new
    (obsolete_added c.args.entry.now c.args.self.now new (sym c.if-obsolete.ensures) refl more) are)
    c.push_separated.ensures.appended

pub returns-else-obsolete-clause-added : goal.returns-else-obsolete-clause-added
returns-else-obsolete-clause-added c =
    let new : TextParts =
    record { live = c.push_separated-else-obsolete.new.out; obsolete = c.args.self.now.obsolete } in
    on_ok_weaker c.push_separated-else-obsolete.result
    (λ more. live_added c.args.entry.now c.args.self.now new (sym c.if-obsolete.ensures) more refl)
    c.push_separated-else-obsolete.ensures.appended

pub returns-else-obsolete-clause-parts : goal.returns-else-obsolete-clause-parts
returns-else-obsolete-clause-parts c =
    let new : TextParts =
    record { live = c.push_separated-else-obsolete.new.out; obsolete = c.args.self.now.obsolete } in
    on_ok_weaker c.push_separated-else-obsolete.result
    (λ more before are. added_parts before (c.args.entry.now ∷ []) c.args.self.now new
    (live_added c.args.entry.now c.args.self.now new (sym c.if-obsolete.ensures) more refl) are)
    c.push_separated-else-obsolete.ensures.appended
