use Rattle.envsubst.proofs.Prelude.{[], drop, flat_map, map, ◌++◌, ◌∷◌, ◌≡◌}
use Rattle.envsubst.proofs.reference.name_lines.Given as goal

abbrev pub invariant-loop-name : goal.invariant-loop-name
invariant-loop-name l =
    l.lines.items ++ flat_map (λ name. name ++ 10 ∷ []) (map (λ name. name.now) (drop l.name-index l.name-items))
    ≡ flat_map (λ name. name ++ 10 ∷ []) (map (λ name. name.now) l.name-items)
