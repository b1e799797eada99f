use Rattle.msgcat.proofs.MergedMessages.{merged_entries, merged_can_stand}
use Rattle.msgcat.proofs.laws.merged_entries_can_stand.Goals as goal

pub returns : goal.returns
returns c = record { entries = merged_entries; can_stand = merged_can_stand }
