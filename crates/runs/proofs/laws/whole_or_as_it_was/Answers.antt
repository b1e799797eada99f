use Rattle.runs.proofs.NewFileOutputs.{whole_outputs}
use Rattle.runs.proofs.laws.whole_or_as_it_was.Goals as goal

pub returns : goal.returns
returns c = whole_outputs
