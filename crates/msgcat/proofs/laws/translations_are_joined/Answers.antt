use Rattle.msgcat.proofs.EntryLaws.{joined_is_fuzzy, forms_are_joined}
use Rattle.msgcat.proofs.laws.translations_are_joined.Goals as goal

pub returns : goal.returns
returns c = record { fuzzy = joined_is_fuzzy; forms = forms_are_joined }
