use Rattle.mo_lookup.proofs.BinarySearch.{search_bound-halves, search_bound-zero}
use Rattle.mo_lookup.proofs.laws.bound_halves.Goals as goal

pub returns : goal.returns
returns c = (search_bound-zero, search_bound-halves)
