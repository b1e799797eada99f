use Rattle.mo_lookup.proofs.BinarySearch.{comparisons-halves, comparisons-none}
use Rattle.mo_lookup.proofs.laws.search_halves.Goals as goal

pub returns : goal.returns
returns c = (comparisons-none, comparisons-halves)
