use Rattle.msgattrib.proofs.OptionLaws.{kept_as_they_are}
use Rattle.msgattrib.proofs.laws.conditions_alone_keep.Goals as goal

pub returns : goal.returns
returns c = kept_as_they_are
