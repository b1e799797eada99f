use Rattle.mo_expand.proofs.Prelude.{arith}
use Rattle.mo_expand.proofs.AddedMessages.{listed-next}
use Rattle.mo_expand.proofs.listing.list_own.Goals as goal

pub loop-i-preserved : goal.loop-i-preserved
loop-i-preserved c = record {
  listed = listed-next _ c.loop-i.i _ _
      (omega (arith, c.loop-i-test.true, c.len-i-end.ensures.count, c.requires, c.loop-i.auto.list))
      c.loop-i.invariant.listed c.original.ensures.value c.translation.ensures;
  looks = omega (arith, c.original.ensures.cost, c.loop-i.invariant.looks);
}
