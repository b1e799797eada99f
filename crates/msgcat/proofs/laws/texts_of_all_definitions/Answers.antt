use Rattle.msgcat.proofs.EntryLaws.{texts_of_all, texts_in_order}
use Rattle.msgcat.proofs.laws.texts_of_all_definitions.Goals as goal

pub returns : goal.returns
returns c = record { all = texts_of_all; order = texts_in_order }
