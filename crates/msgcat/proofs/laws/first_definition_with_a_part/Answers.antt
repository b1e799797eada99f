use Rattle.msgcat.proofs.EntryLaws.{previous_of_first, plural_of_first}
use Rattle.msgcat.proofs.laws.first_definition_with_a_part.Goals as goal

pub returns : goal.returns
returns c = record { previous = previous_of_first; plural = plural_of_first }
