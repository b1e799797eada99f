use Rattle.mo_lookup.proofs.BinarySearch.{comparisons-bound}
use Rattle.mo_lookup.proofs.laws.search_is_bounded.Goals as goal

pub returns : goal.returns
returns c = comparisons-bound
