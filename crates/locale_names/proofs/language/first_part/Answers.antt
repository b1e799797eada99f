use Rattle.locale_names.proofs.Prelude.{arith}
use Rattle.locale_names.proofs.LanguageParts.{parts-last, parts-next}
use Rattle.locale_names.proofs.language.first_part.Goals as goal

pub returns-then-end-languages-clause-parts : goal.returns-then-end-languages-clause-parts
returns-then-end-languages-clause-parts c =
    parts-last c.args.languages.now c.len_before-end.result c.len_before-end.ensures.index c.if-end-languages.true

pub returns-clause-parts : goal.returns-clause-parts
returns-clause-parts c =
    parts-next c.args.languages.now c.len_before-end.result c.len_before-end.ensures.index (omega arith)
