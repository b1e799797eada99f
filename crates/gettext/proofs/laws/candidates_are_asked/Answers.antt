use Rattle.gettext.proofs.Languages.{candidates_asked}
use Rattle.gettext.proofs.laws.candidates_are_asked.Goals as goal

pub returns : goal.returns
returns c = candidates_asked
