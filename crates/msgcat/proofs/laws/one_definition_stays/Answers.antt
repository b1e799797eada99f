use Rattle.msgcat.proofs.MergedMessages.{one_stays}
use Rattle.msgcat.proofs.laws.one_definition_stays.Goals as goal

pub returns : goal.returns
returns c = one_stays
