use Rattle.gettext.proofs.Prelude.{[], candidates, length, locale_of, map, names_from, non_empty, unwrap_or, ◌++◌, ◌≡◌}
use Rattle.gettext.proofs.candidates.locale_candidates.Given as goal

-- the names so far, and those that are still to be given
abbrev pub invariant-loop-candidate : goal.invariant-loop-candidate
invariant-loop-candidate l =
    map (λ name. name.items) l.names.items ++ names_from l.locale l.language l.position
    ≡ candidates (locale_of l.environment) (unwrap_or (non_empty l.environment.language) [])

abbrev pub decreases-loop-candidate : goal.decreases-loop-candidate
decreases-loop-candidate l = length (names_from l.locale l.language l.position)
