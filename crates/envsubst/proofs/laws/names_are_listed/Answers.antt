use Rattle.envsubst.proofs.Substitution.{names_listed}
use Rattle.envsubst.proofs.laws.names_are_listed.Goals as goal

pub returns : goal.returns
returns c = names_listed
