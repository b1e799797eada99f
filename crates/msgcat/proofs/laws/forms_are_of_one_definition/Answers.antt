use Rattle.msgcat.proofs.MergedMessages.{forms_of_one}
use Rattle.msgcat.proofs.laws.forms_are_of_one_definition.Goals as goal

pub returns : goal.returns
returns c = forms_of_one
