use Rattle.envsubst.proofs.Prelude.{false, sym, take_rest, true}
use Rattle.envsubst.proofs.References.{undecided-parts}
use Rattle.envsubst.proofs.holding.begun.Goals as goal

pub returns-then-begins_with : goal.returns-then-begins_with
returns-then-begins_with c =
    let brace = simp take_rest at (sym c.if-begins_with.ensures) in
    let parts = undecided-parts true c.args.held.now c.requires.some c.requires.undecided brace in
    record { bytes = simp take_rest parts.0; name = simp take_rest parts.1 }

pub returns-else-begins_with : goal.returns-else-begins_with
returns-else-begins_with c =
    let bare = simp take_rest at (sym c.if-begins_with.ensures) in
    let parts = undecided-parts false c.args.held.now c.requires.some c.requires.undecided bare in
    record { bytes = simp take_rest parts.0; name = simp take_rest parts.1 }
