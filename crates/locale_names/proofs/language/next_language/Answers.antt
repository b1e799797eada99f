use Rattle.locale_names.proofs.Prelude.{ap, arith, drop_all, language_parts, sym, ◌∙◌}
use Rattle.locale_names.proofs.LanguageParts.{parts-none}
use Rattle.locale_names.proofs.language.next_language.Goals as goal

pub returns-clause-parts : goal.returns-clause-parts
returns-clause-parts c = sym c.loop-at.invariant.1
    ∙ ap language_parts (drop_all c.loop-at.at c.args.languages.now (omega arith)) ∙ parts-none
