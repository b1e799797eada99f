use Rattle.locale_names.proofs.Prelude.{[], ap, names_left, sym, text_of, ◌∙◌, ◌∷◌}
use Rattle.locale_names.proofs.CandidateNames.{from-language, from-locale, from-start, matched-left, one-given, past-five}
use Rattle.locale_names.proofs.position.translated_candidate_at.Goals as goal

pub returns-then-not-is_empty-clause-start : goal.returns-then-not-is_empty-clause-start
returns-then-not-is_empty-clause-start c = from-start c.args.locale.now c.args.language.now c.args.position

pub returns-then-not-is_empty-clause-next : goal.returns-then-not-is_empty-clause-next
returns-then-not-is_empty-clause-next c =
    matched-left _ _ (from-language c.args.locale.now c.args.language.now c.requires (sym c.if-not-is_empty.ensures))
    c.args.position c.of_language.result c.of_language.ensures

pub returns-then-position-ge5-clause-next : goal.returns-then-position-ge5-clause-next
unfolding names_left
returns-then-position-ge5-clause-next c =
    from-locale c.args.locale.now c.args.language.now c.requires (sym c.if-not-is_empty.ensures) c.args.position
    ∙ past-five c.args.locale.now c.args.position.given [] c.if-position-ge5.true

pub returns-clause-start : goal.returns-clause-start
returns-clause-start c = from-start c.args.locale.now c.args.language.now c.args.position

pub returns-clause-next : goal.returns-clause-next
unfolding names_left
returns-clause-next c =
    let left = from-locale c.args.locale.now c.args.language.now c.requires (sym c.if-not-is_empty.ensures) in
    left c.args.position
    ∙ one-given c.args.locale.now c.args.position.given _ [] c.candidate_of_name.ensures
    ∙ ap (λ later. text_of c.candidate_of_name.result ∷ later) (sym (left _))
