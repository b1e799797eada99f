use Rattle.mo_expand.proofs.Examples.{example_needs_its_text}
use Rattle.mo_expand.proofs.laws.example_needs_its_text.Goals as goal

pub returns : goal.returns
returns c = example_needs_its_text
