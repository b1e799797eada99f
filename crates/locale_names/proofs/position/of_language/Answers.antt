use Rattle.locale_names.proofs.Prelude.{ap, arith, candidates_of_name, drop_all, flat_map, language_parts, take_rest, ◌∙◌}
use Rattle.locale_names.proofs.CandidateNames.{first-given, language-passed, next-given, no-language-left}
use Rattle.locale_names.proofs.LanguageParts.{parts-none}
use Rattle.locale_names.proofs.position.of_language.Goals as goal

pub returns-then-position-language : goal.returns-then-position-language
returns-then-position-language c =
    no-language-left _ _ (ap language_parts (drop_all c.args.position.offset c.args.language.now (omega arith))
    ∙ parts-none)

pub returns-in_default : goal.returns-in_default
returns-in_default c = no-language-left _ _ (simp take_rest at c.in_default.ensures.parts)

pub returns-then-position-lt5 : goal.returns-then-position-lt5
returns-then-position-lt5 c =
    next-given _ _ _ _ _ (simp take_rest at c.in-Some.ensures.parts) c.candidate_of_name.ensures

pub returns-in_default-next_language : goal.returns-in_default-next_language
returns-in_default-next_language c =
    language-passed c.args.language.now _ c.args.position.offset c.in-Some.len c.args.position.given
    (simp take_rest at c.in-Some.ensures.parts) (omega arith)
    ∙ ap (flat_map candidates_of_name) (simp take_rest at c.in_default-next_language.ensures.parts)

pub returns : goal.returns
returns c =
    language-passed c.args.language.now _ c.args.position.offset c.in-Some.len c.args.position.given
    (simp take_rest at c.in-Some.ensures.parts) (omega arith)
    ∙ first-given _ _ _ _ (simp take_rest at c.in-Some-next_language.ensures.parts)
    c.candidate_of_name-2.ensures
