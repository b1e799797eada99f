use Rattle.msgcat.proofs.MessagesOnce.{stand_once, kept_stand}
use Rattle.msgcat.proofs.laws.messages_stand_once.Goals as goal

pub returns : goal.returns
returns c = record { once = stand_once; kept = kept_stand }
