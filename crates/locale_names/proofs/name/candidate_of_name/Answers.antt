use Rattle.locale_names.proofs.CandidateNames.{second-name, third-name}
use Rattle.locale_names.proofs.name.candidate_of_name.Goals as goal

pub returns-in-1 : goal.returns-in-1
returns-in-1 c = second-name c.args.name.now _ _ _ c.args.index c.from_first-modifier.ensures c.before-2.ensures
    c.before-base.ensures c.in-1.is

pub returns-in-2 : goal.returns-in-2
returns-in-2 c =
    third-name c.args.name.now _ _ _ _ c.args.index c.from_first-modifier.ensures c.before-2.ensures
    c.before-base.ensures c.before-language.ensures c.in-2.is
