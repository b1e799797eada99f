use Rattle.runs.proofs.Prelude.{false}
use Rattle.runs.proofs.AskedInputs.{one_list}
use Rattle.runs.proofs.laws.inputs_are_one.Goals as goal

pub returns : goal.returns
returns g c = λ source arguments inputs others fault other one.
    one_list (g.S.InputSource.file source)
    (g.S.InputSource.standard source) one false arguments inputs others fault other
