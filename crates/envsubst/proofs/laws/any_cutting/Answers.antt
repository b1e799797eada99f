use Rattle.envsubst.proofs.Pieces.{calls-agree}
use Rattle.envsubst.proofs.laws.any_cutting.Goals as goal

pub returns : goal.returns
returns c = calls-agree
