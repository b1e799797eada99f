-- A history without a call.
use Rattle.known_system.proofs.Walks.{bare, is_bare, List, [], ◌∷◌, refl, proved, ftrue, Val, vstruct, of_list, ‵, raw, ◌⊛◌, ◌$◌, ◌∵◌, !, qed, done, move, drop, split, fjoin, fpack, feq_i, suffices, enter, no_more, returns, alloc_all, pass_all, free_all, look_at, sets, agg, nothing, alive, Stays, walk_of, says, ends_at}
use Rattle.known_system.specs.contracts.history.History.new as f
use Rattle.known_system.proofs.history.History.new.Statement.{statement}
use Rattle.known_system.proofs.history.History.new.Code as code

abbrev stayed : Stays f.ended.signature.params f.ended.kept
stayed = tt

pub new_spec : {M : Type 1} → statement M
new_spec 𝓤 𝓛 𝓜 𝓡 wired =
    let c = f.clauses 𝓛 𝓜.mem 𝓡.returns in let W = walk_of 𝓛 f.ended stayed c in
    proved 𝓛 f.ended stayed c 𝓜 𝓡 tt f.Key.name code.function (code.unfolded 𝓤 𝓛.H 𝓜 𝓡 wired)
    (λ κs. tt) (λ κs. tt) (λ κs qs bounds a _ are.
    let y : W.Ghost = ((κs, qs, bounds, a, tt), tt) in
    qed 𝓛 ((raw (alive 𝓛 f.signature κs qs) ⊛ ‵ ftrue) ∷ ‵ ftrue ∷ []) ∵ split ! $ move ! (2 ∷ []) $ drop ! $ move !
    (1 ∷ []) $ drop ! $
    enter ! _ _ _ _ _ $ alloc_all ! (λ l. pass_all ! refl tt $
    sets ! (agg ! (no_more !)) refl (tt, tt) $
    returns ! (look_at ! 0 refl) $ free_all ! refl $
    suffices ! _ (ends_at 𝓛 f.ended stayed c y (vstruct (of_list [])) (record { calls = [] }) tt tt) $ says ! refl $
    nothing ! $ nothing ! $ feq_i ! (List Val) bare bare refl $ fjoin ! $ fpack ! (Unit {0}) is_bare tt $ fjoin ! $
    nothing ! $ move ! (2 ∷ 0 ∷ 1 ∷ []) $ done !))
