use Rattle.gettext.proofs.LocaleChoice.{folder_chosen}
use Rattle.gettext.proofs.laws.folder_is_chosen.Goals as goal

pub returns : goal.returns
returns c = folder_chosen
