use Rattle.msgattrib.proofs.OptionLaws.{nothing_given}
use Rattle.msgattrib.proofs.laws.nothing_given_selects_all.Goals as goal

pub returns : goal.returns
returns c = nothing_given
