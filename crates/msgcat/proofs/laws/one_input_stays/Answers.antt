use Rattle.msgcat.proofs.SameInput.{one_input}
use Rattle.msgcat.proofs.laws.one_input_stays.Goals as goal

pub returns : goal.returns
returns c = one_input
