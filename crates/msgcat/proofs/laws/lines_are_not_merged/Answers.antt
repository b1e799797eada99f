use Rattle.msgcat.proofs.LinesOfDefinitions.{lines_not_merged}
use Rattle.msgcat.proofs.laws.lines_are_not_merged.Goals as goal

pub returns : goal.returns
returns c = lines_not_merged
