use Rattle.mo_expand.proofs.Examples.{example_is_completed}
use Rattle.mo_expand.proofs.laws.example_is_completed.Goals as goal

pub returns : goal.returns
returns c = example_is_completed
