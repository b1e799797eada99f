use Rattle.known_system.proofs.Calls.{left_by}
use Rattle.known_system.proofs.laws.output_is_whole_or_as_it_was.Goals as goal

pub returns : goal.returns
returns c = λ output path limit course links held fresh new writes is. left_by fresh new writes is
