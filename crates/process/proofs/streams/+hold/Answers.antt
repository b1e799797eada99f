use Rattle.process.proofs.Prelude.{above, arith, enough, held, suc, ◌-◌, ◌≡◌}
use Rattle.process.specs.OutputCalls.{unopened}
use Rattle.process.proofs.CallOutcomes.{held_so, nothing, once, so, then}
use Rattle.process.proofs.streams.+hold.Goals as goal

pub returns-then-left-eq0-clause-calls : goal.returns-then-left-eq0-clause-calls
returns-then-left-eq0-clause-calls g t c = rw c.if-left-eq0.true (nothing enough)

pub returns-in_default-clause-calls : goal.returns-in_default-clause-calls
returns-in_default-clause-calls g t c =
    let more : suc (c.args.left - 1) ≡ c.args.left = omega (arith, c.if-left-eq0.false) in
    held_so (c.args.left - 1) more (once _ c.in_default.ensures unopened)

pub returns-then-descriptor-gt-LAST_STREAM-clause-calls : goal.returns-then-descriptor-gt-LAST_STREAM-clause-calls
returns-then-descriptor-gt-LAST_STREAM-clause-calls g t c =
    let more : suc (c.args.left - 1) ≡ c.args.left = omega (arith, c.if-left-eq0.false) in
    held_so (c.args.left - 1) more
    (then _ c.in-Some.ensures (once _ c.descriptor.ensures (above c.if-descriptor-gt-LAST_STREAM.true)))

pub returns-clause-calls : goal.returns-clause-calls
returns-clause-calls g t c =
    let more : suc (c.args.left - 1) ≡ c.args.left = omega (arith, c.if-left-eq0.false) in
    held_so (c.args.left - 1) more
    (then _ c.in-Some.ensures
    (then _ c.descriptor.ensures
    (then _ c.leave_open.ensures
    (so (λ rest is. held (omega (arith, c.if-descriptor-gt-LAST_STREAM.false)) is) c.hold.ensures.calls))))
