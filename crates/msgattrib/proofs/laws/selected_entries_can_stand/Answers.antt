use Rattle.msgattrib.proofs.OptionLaws.{selected_can_stand}
use Rattle.msgattrib.proofs.laws.selected_entries_can_stand.Goals as goal

pub returns : goal.returns
returns c = selected_can_stand
