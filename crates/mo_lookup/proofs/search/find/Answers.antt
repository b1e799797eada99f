use Rattle.mo_lookup.proofs.Prelude.{arith, ◌∙◌}
use Rattle.mo_lookup.proofs.BinarySearch.{IsSearch-compared, IsSearch-counted, IsSearch-found, IsSearch-greater, IsSearch-last, IsSearch-less, IsSearch-none}
use Rattle.mo_lookup.proofs.search.find.Goals as goal

pub compare-requires-clause-room : goal.compare-requires-clause-room
compare-requires-clause-room g c =
    let counted = IsSearch-counted _ _ _ _ _ _ _ c.rising.invariant.2 in
    let began = c.requires in
    omega (arith, counted.at_most_32)

pub returns-in-Equal-clause-index : goal.returns-in-Equal-clause-index
returns-in-Equal-clause-index g c =
    IsSearch-found _ _ _ _ _ _ _ _ c.rising.invariant.2 (omega arith) c.in-Equal.ensures.order

pub returns-in-Equal-clause-comparisons : goal.returns-in-Equal-clause-comparisons
returns-in-Equal-clause-comparisons g c =
    c.compare.ensures.cost
    ∙ IsSearch-last _ _ _ _ _ _ _ _ c.rising.invariant.2 c.rising-test.true (omega arith) c.in-Equal.ensures.order

pub returns-in-Equal-clause-bound : goal.returns-in-Equal-clause-bound
returns-in-Equal-clause-bound g c =
    let counted = IsSearch-compared _ _ _ _ _ _ _ _ c.rising.invariant.2 c.rising-test.true
    (omega arith) c.in-Equal.ensures.order in
    rw c.compare.ensures.cost counted.bound

pub returns-in-Equal-clause-at_most_32 : goal.returns-in-Equal-clause-at_most_32
returns-in-Equal-clause-at_most_32 g c =
    let counted = IsSearch-compared _ _ _ _ _ _ _ _ c.rising.invariant.2 c.rising-test.true
    (omega arith) c.in-Equal.ensures.order in
    rw c.compare.ensures.cost counted.at_most_32

pub rising-preserved : goal.rising-preserved
rising-preserved g c = (
  c.compare.ensures.same_counter ∙ c.rising.invariant.0,
  c.compare.ensures.same_file ∙ c.rising.invariant.1,
  rw c.compare.ensures.cost
      (
      IsSearch-less _ _ _ _ _ _ _ _ _ c.rising.invariant.2 c.rising-test.true (omega arith) c.in-Less.ensures.order
      c.compare.ensures.unchanged
      ),
  omega (arith, c.rising.invariant),
  c.rising.invariant.4,
)

pub halving-preserved : goal.halving-preserved
halving-preserved g c = (
  c.compare.ensures.same_counter ∙ c.rising.invariant.0,
  c.compare.ensures.same_file ∙ c.rising.invariant.1,
  rw c.compare.ensures.cost
      (
      IsSearch-greater _ _ _ _ _ _ _ _ _ c.rising.invariant.2 c.rising-test.true (omega arith)
      c.in-Greater.ensures.order c.compare.ensures.unchanged
      ),
)

pub returns-clause-comparisons : goal.returns-clause-comparisons
returns-clause-comparisons g c = IsSearch-none _ _ _ _ _ _ _ c.halving.invariant.2 (omega arith)

pub returns-clause-bound : goal.returns-clause-bound
returns-clause-bound g c = (IsSearch-counted _ _ _ _ _ _ _ c.halving.invariant.2).bound

pub returns-clause-at_most_32 : goal.returns-clause-at_most_32
returns-clause-at_most_32 g c = (IsSearch-counted _ _ _ _ _ _ _ c.halving.invariant.2).at_most_32
