use Rattle.runs.proofs.KeptRights.{kept_rights, nobody_gets_more}
use Rattle.runs.proofs.laws.rights_are_kept.Goals as goal

pub returns-clause-nobody_gets_more : goal.returns-clause-nobody_gets_more
returns-clause-nobody_gets_more c = nobody_gets_more

pub returns-clause-kept : goal.returns-clause-kept
returns-clause-kept c = kept_rights
