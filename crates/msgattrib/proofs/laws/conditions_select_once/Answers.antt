use Rattle.msgattrib.proofs.OptionLaws.{selected_once}
use Rattle.msgattrib.proofs.laws.conditions_select_once.Goals as goal

pub returns : goal.returns
returns c = selected_once
