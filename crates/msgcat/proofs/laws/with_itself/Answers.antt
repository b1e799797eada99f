use Rattle.msgcat.proofs.SameInput.{twice}
use Rattle.msgcat.proofs.laws.with_itself.Goals as goal

pub returns : goal.returns
returns c = twice
