use Rattle.mo_file.proofs.Prelude.{arith, refl, take_all}
use Rattle.mo_file.proofs.FileLayout.{length-layout-pairs}
use Rattle.mo_file.proofs.building.file_len.Goals as goal

pub returns-then-len-from-clause-fault : goal.returns-then-len-from-clause-fault
returns-then-len-from-clause-fault g c =
    let whole = rw (take_all _ c.args.pairs.now c.loop-pair-test.false) at c.loop-pair.invariant in
    (refl, λ order. omega (arith, whole, length-layout-pairs g.P.StringPair.message order c.args.pairs.now))

pub returns-clause-len : goal.returns-clause-len
returns-clause-len g c order =
    let whole = rw (take_all _ c.args.pairs.now c.loop-pair-test.false) at c.loop-pair.invariant in
    omega (arith, whole, length-layout-pairs g.P.StringPair.message order c.args.pairs.now)
