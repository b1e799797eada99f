use Rattle.gettext.proofs.Prelude.{argument_answer, drop, gettext_view, list_any, map, omits_newline, ◌++◌, ◌||◌, ◌≡◌}
use Rattle.gettext.proofs.FoundCatalogues.{further}
use Rattle.gettext.proofs.plan.push_answers.Given as goal

-- the answers to the arguments that are left complete the answers so far, and those arguments may stop the line too
abbrev pub invariant-loop-argument : goal.invariant-loop-argument
invariant-loop-argument l =
    (l.output.items ++ further (argument_answer l.chain (gettext_view l.options)) (drop l.argument-index l.others)
    ≡ l.initial.output.items ++ further (argument_answer l.chain (gettext_view l.options)) l.others)
    × ((l.omitted || list_any (omits_newline (gettext_view l.options))
    (map (λ argument. argument.now) (drop l.argument-index l.others)))
    ≡ (l.initial.omitted || list_any (omits_newline (gettext_view l.options))
    (map (λ argument. argument.now) l.others)))
