use Rattle.mo_lookup.proofs.Translations.{index-listed}
use Rattle.mo_lookup.proofs.lookup.index_of.Goals as goal

pub returns-clause-found : goal.returns-clause-found
returns-clause-found g c =
    index-listed _ _ _ c.find.result c.requires.keys c.len-rising.ensures.rising c.find.ensures.index
