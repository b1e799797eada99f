use Rattle.runs.proofs.AskedInputs.{inputs_in_turn}
use Rattle.runs.proofs.laws.inputs_stand_in_turn.Goals as goal

pub returns : goal.returns
returns g c source = inputs_in_turn (g.S.InputSource.file source) (g.S.InputSource.standard source)
