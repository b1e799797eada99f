use Rattle.po_entry.proofs.Prelude.{same_message}
use Rattle.po_entry.proofs.MessageNumbers.{number_at, same_message_laws}
use Rattle.po_entry.proofs.laws.messages_are_numbered_in_order.Goals as goal

pub returns : goal.returns
returns c = number_at same_message same_message_laws
