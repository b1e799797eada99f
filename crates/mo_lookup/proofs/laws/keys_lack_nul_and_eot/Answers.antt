use Rattle.mo_lookup.proofs.Translations.{key-alone, key-in-context}
use Rattle.mo_lookup.proofs.laws.keys_lack_nul_and_eot.Goals as goal

pub returns : goal.returns
returns c = (key-alone, key-in-context)
