use Rattle.po_compile.proofs.SortedMessages.{messages_are_one}
use Rattle.po_compile.proofs.laws.messages_are_one.Goals as goal

pub returns : goal.returns
returns c = messages_are_one
