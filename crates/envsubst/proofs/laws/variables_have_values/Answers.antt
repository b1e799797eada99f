use Rattle.envsubst.proofs.Variables.{values_are}
use Rattle.envsubst.proofs.laws.variables_have_values.Goals as goal

pub returns : goal.returns
returns c = values_are
