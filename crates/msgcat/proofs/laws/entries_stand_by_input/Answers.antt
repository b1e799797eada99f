use Rattle.msgcat.proofs.InputEntries.{stand_in_turn}
use Rattle.msgcat.proofs.laws.entries_stand_by_input.Goals as goal

pub returns : goal.returns
returns c = stand_in_turn
