use Rattle.known_system.proofs.Prelude.{FileCall, List, [], ap, nothing, numbers, replay, ◌++◌, ◌∙◌, ◌∷◌}
use Rattle.known_system.proofs.Calls.{told_all}
use Rattle.std.proofs.lemmas.List.{take_all}
use Rattle.known_system.proofs.files.told.Goals as goal

pub returns : goal.returns
returns c = λ held is.
    let past = c.loop-link-test.false in
    let told = rw take_all at c.loop-link.invariant in
    ap (λ (calls : List FileCall). replay calls nothing)
    (c.then.ensures ∙ ap (λ (calls : List FileCall). calls ++ numbers 0 ∷ []) told)
    ∙ told_all c.args.before.calls c.args.links.now held 0 is
