use Rattle.msgcat.proofs.EntryLaws.{comments_of_first, forms_of_first}
use Rattle.msgcat.proofs.laws.first_translated_definition.Goals as goal

pub returns : goal.returns
returns c = record { forms = forms_of_first; comments = comments_of_first }
