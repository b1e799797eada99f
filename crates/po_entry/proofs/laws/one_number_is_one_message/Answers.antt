use Rattle.po_entry.proofs.MessageNumbers.{numbers_tell}
use Rattle.po_entry.proofs.laws.one_number_is_one_message.Goals as goal

pub returns : goal.returns
returns c = numbers_tell
