use Rattle.locale_names.proofs.Prelude.{drop, language_parts, length, ◌-◌, ◌≡◌, ◌≤◌}
use Rattle.locale_names.proofs.language.next_language.Given as goal

abbrev pub invariant-loop-at : goal.invariant-loop-at
invariant-loop-at l = (l.at ≤ length l.languages)
    × (language_parts (drop l.at l.languages) ≡ language_parts l.languages)

abbrev pub decreases-loop-at : goal.decreases-loop-at
decreases-loop-at l = length l.languages - l.at
