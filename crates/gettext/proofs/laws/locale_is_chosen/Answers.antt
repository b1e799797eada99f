use Rattle.gettext.proofs.LocaleChoice.{locale_chosen}
use Rattle.gettext.proofs.laws.locale_is_chosen.Goals as goal

pub returns : goal.returns
returns c = locale_chosen
