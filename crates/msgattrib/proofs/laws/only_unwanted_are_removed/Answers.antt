use Rattle.msgattrib.proofs.OptionLaws.{only_unwanted}
use Rattle.msgattrib.proofs.laws.only_unwanted_are_removed.Goals as goal

pub returns : goal.returns
returns c = only_unwanted
