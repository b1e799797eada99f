use Rattle.mo_expand.proofs.SystemMessages.{message_is_its_strings}
use Rattle.mo_expand.proofs.laws.message_is_its_strings.Goals as goal

pub returns : goal.returns
returns c = message_is_its_strings
