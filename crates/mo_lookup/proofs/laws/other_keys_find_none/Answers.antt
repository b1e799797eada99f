use Rattle.mo_lookup.proofs.Translations.{under-none}
use Rattle.mo_lookup.proofs.laws.other_keys_find_none.Goals as goal

pub returns : goal.returns
returns c = under-none
