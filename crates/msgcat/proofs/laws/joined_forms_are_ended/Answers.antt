use Rattle.msgcat.proofs.EntryLaws.{forms_end}
use Rattle.msgcat.proofs.laws.joined_forms_are_ended.Goals as goal

pub returns : goal.returns
returns c = forms_end
