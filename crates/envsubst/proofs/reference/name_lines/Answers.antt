use Rattle.envsubst.proofs.Prelude.{[], ap, flat_map, ◌++◌, ◌∙◌, ◌∷◌}
use Rattle.envsubst.proofs.Variables.{lines-all, lines-next, lines_of}
use Rattle.envsubst.proofs.reference.name_lines.Goals as goal

pub loop-name-preserved : goal.loop-name-preserved
loop-name-preserved c =
    lines-next _ c.loop-name.name-index _ _ _ _ c.loop-name-test.true
    (c.in_ok-push.ensures.items ∙ ap (λ l. l ++ 10 ∷ []) c.in_ok-extend_from_slice.ensures.items)
    c.loop-name.invariant

pub returns-clause-lines : goal.returns-clause-lines
returns-clause-lines c =
    lines-all _ _ _ _ c.loop-name-test.false c.loop-name.invariant ∙ ap lines_of c.deref-name-items.ensures.value
    ∙ ap (flat_map (λ name. name ++ 10 ∷ [])) c.in_ok-names.ensures.names
