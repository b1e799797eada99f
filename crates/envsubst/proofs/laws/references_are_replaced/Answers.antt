use Rattle.envsubst.proofs.Substitution.{references_replaced}
use Rattle.envsubst.proofs.laws.references_are_replaced.Goals as goal

pub returns : goal.returns
returns c = references_replaced
