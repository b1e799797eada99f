use Rattle.mo_lookup.proofs.Prelude.{[]}
use Rattle.mo_lookup.proofs.FormPlaces.{get_or-none}
use Rattle.mo_lookup.proofs.laws.forms_stand_at_their_index.Goals as goal

pub returns-clause-not_there : goal.returns-clause-not_there
returns-clause-not_there c forms index none = get_or-none forms index [] none
