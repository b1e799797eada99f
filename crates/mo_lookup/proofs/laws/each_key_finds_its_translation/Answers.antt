use Rattle.mo_lookup.proofs.Prelude.{key_at, keys, refl}
use Rattle.mo_lookup.proofs.Translations.{under-found}
use Rattle.mo_lookup.proofs.laws.each_key_finds_its_translation.Goals as goal

pub returns : goal.returns
returns c = λ messages i rising inside. under-found messages (key_at (keys messages) i) i rising inside refl
