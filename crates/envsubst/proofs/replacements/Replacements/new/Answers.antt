use Rattle.envsubst.proofs.Prelude.{AreNamesSorted, IfSome, answers_always, is_ge, name_cmp, rules, subst, sym, ◌∙◌}
use Rattle.envsubst.proofs.Variables.{names-sorted, variables-sorted}
use Rattle.envsubst.proofs.replacements.Replacements.new.Goals as goal
use Rattle.envsubst.proofs.replacements.Replacements.new.Goals.{in-None, in-Some}

pub invariant_of-result : goal.invariant_of-result
invariant_of-result c = (
  variables-sorted c.args.vars.now _
      (c.is_sorted_by.ensures.cases (λ a b. is_ge (name_cmp b.0.now a.0.now))
      (answers_always _ _ _ (λ f a r g h. search rules))),
  elim c.match-only.branch [
    | in-Some w ↦ λ is.
        subst (λ only. IfSome only (λ names. AreNamesSorted names.now)) (sym w.in-Some.is)
        (names-sorted w.in-Some.names.now _
        (w.is_sorted_by-are_names_sorted.ensures.cases (λ a b. is_ge (name_cmp b.now a.now))
        (answers_always _ _ _ (λ f a r g h. search rules)))
        (sym w.are_names_sorted-is ∙ is))
    | in-None w ↦ λ is. absurd (cc (w.are_names_sorted-is, is))
  ],
)
