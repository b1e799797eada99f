use Rattle.mo_lookup.proofs.BinarySearch.{search_bound-above, search_bound-below}
use Rattle.mo_lookup.proofs.laws.bound_is_logarithm.Goals as goal

pub returns : goal.returns
returns c = λ n positive. (search_bound-below n positive, search_bound-above n)
