use Rattle.gettext.proofs.LocaleChoice.{domain_chosen}
use Rattle.gettext.proofs.laws.domain_is_chosen.Goals as goal

pub returns : goal.returns
returns c = domain_chosen
