use Rattle.msgcat.proofs.GroupsByIndex.{groups_by_number}
use Rattle.msgcat.proofs.laws.groups_are_numbered.Goals as goal

pub returns : goal.returns
returns c = groups_by_number
