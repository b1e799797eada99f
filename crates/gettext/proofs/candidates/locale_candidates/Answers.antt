use Rattle.gettext.proofs.Prelude.{refl, rules}
use Rattle.locale_names.proofs.CandidateNames.{from-start}
use Rattle.gettext.proofs.candidates.locale_candidates.Goals as goal

pub loop-candidate-init : goal.loop-candidate-init
loop-candidate-init c =
    let start = from-start c.unwrap_or-locale.result.now c.unwrap_or-language.result.now
    (record { offset = 0; given = 0 }) refl refl in
    search rules
