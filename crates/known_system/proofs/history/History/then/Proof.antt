-- The calls of a history, and one more.
use Rattle.known_system.proofs.Walks.{Slot, RefOf, plain, bare, is_bare, List, [], ◌∷◌, ◌++◌, refl, proved, ftrue, Val, vstruct, of_list, ‵, raw, ◌⊛◌, ◌$◌, ◌∵◌, !, qed, done, move, drop, split, fjoin, fpack, feq_i, suffices, enter, no_more, returns, alloc_all, pass_all, free_all, look_at, sets, agg, nothing, alive, Stays, walk_of, says, ends_at, shr_vals, shr_Tells, stay_dropped, Goes-dropped, named, named_lft, types_at, yes, owns}
use Rattle.known_system.proofs.Prelude.{noted}
use Rattle.known_system.specs.contracts.history.History.then as f
use Rattle.known_system.specs.contracts.history.History.{the_row as R}
use Rattle.known_system.specs.contracts.history.Note as note
use Rattle.known_system.proofs.history.History.then.Statement.{statement}
use Rattle.known_system.proofs.history.History.then.Code as code

abbrev self_slot : Slot 3
self_slot = RefOf (0 ∷ []) tt (plain (λ κs. R)) (λ κs. tt)

abbrev note_slot : Slot 3
note_slot = RefOf (1 ∷ []) tt (plain (λ κs. note.the_row (named_lft 3 2 tt κs))) (λ κs. tt)

abbrev stayed : Stays f.ended.signature.params f.ended.kept
stayed = (stay_dropped _ yes, (stay_dropped _ yes, tt))

pub then_spec : {M : Type 1} → statement M
then_spec 𝓤 𝓛 𝓜 𝓡 wired =
    let c = f.clauses 𝓛 𝓜.mem 𝓡.returns in let W = walk_of 𝓛 f.ended stayed c in
    proved 𝓛 f.ended stayed c 𝓜 𝓡
    (Goes-dropped 𝓛 3 self_slot yes (λ κs x w. refl), (Goes-dropped 𝓛 3 note_slot yes (λ κs x w. refl), tt))
    f.Key.name code.function (code.unfolded 𝓤 𝓛.H 𝓜 𝓡 wired)
    (λ κs. (shr_vals, (shr_vals, tt)))
    (λ κs. (shr_Tells (named 0) κs.0 R, (shr_Tells (named 1) κs.1.0 (note.the_row (named_lft 3 2 tt κs)), tt)))
    (λ κs qs bounds a _ are.
    let y : W.Ghost = ((κs, qs, bounds, a, (shr_vals a.0, (shr_vals a.1.0, tt))), tt) in
    qed 𝓛 ((raw (alive 𝓛 f.signature κs qs) ⊛ ‵ (owns (types_at f.signature.params κs) a y.0.4)) ∷ ‵ ftrue ∷ []) ∵ split
    ! $ move ! (2 ∷ []) $ drop ! $ move ! (1 ∷ []) $ drop ! $
    enter ! _ _ _ _ _ $ alloc_all ! (λ l. pass_all ! refl ((tt, tt), ((tt, tt), tt)) $
    sets ! (agg ! (no_more !)) refl (tt, tt) $
    returns ! (look_at ! 0 refl) $ free_all ! refl $
    suffices ! _ (ends_at 𝓛 f.ended stayed c y (vstruct (of_list []))
    (record { calls = a.0.now.calls ++ noted a.1.0.now ∷ [] }) (tt, (tt, tt)) (tt, (tt, tt))) $ says ! refl $
    nothing ! $ nothing ! $ feq_i ! (List Val) bare bare refl $ fjoin ! $ fpack ! (Unit {0}) is_bare tt $ fjoin ! $
    nothing ! $ nothing ! $ fjoin ! $ nothing ! $ fjoin ! $ move ! (2 ∷ 0 ∷ 1 ∷ []) $ done !))
