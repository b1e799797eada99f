use Rattle.gettext.proofs.Escapes.{escapes_expanded}
use Rattle.gettext.proofs.laws.escapes_are_expanded.Goals as goal

pub returns : goal.returns
returns c = escapes_expanded
