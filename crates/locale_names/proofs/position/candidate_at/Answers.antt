use Rattle.locale_names.proofs.Prelude.{sym, ◌∙◌}
use Rattle.locale_names.proofs.CandidateNames.{barred-from, from-start}
use Rattle.locale_names.proofs.position.candidate_at.Goals as goal

pub returns-then-is_untranslated-clause-start : goal.returns-then-is_untranslated-clause-start
returns-then-is_untranslated-clause-start c = from-start c.args.locale.now c.args.language.now c.args.position

pub returns-then-is_untranslated-clause-next : goal.returns-then-is_untranslated-clause-next
returns-then-is_untranslated-clause-next c =
    barred-from c.args.locale.now c.args.language.now c.args.position
    (sym c.is_untranslated.ensures ∙ c.if-is_untranslated.true)
