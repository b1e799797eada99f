use Rattle.runs.proofs.Prelude.{Exists, Failed, Forbidden, all_taken, arith, failed, forbidden, in_place, unnamed, ◌+◌, ◌-◌, ◌∙◌, ◌≡◌}
use Rattle.runs.proofs.OutputsInPlace.{after-made, after-taken, after-unmade, done-for, is-fault, is-no-memory}
use Rattle.runs.proofs.output_writing.+replace.Goals as goal

pub returns-in_err-new : goal.returns-in_err-new
returns-in_err-new g t c = is-no-memory c.from_residual.result c.from_residual.ensures.1 unnamed

pub returns-in-Ok : goal.returns-in-Ok
returns-in-Ok g t c =
    after-made c.args.number (omega (arith, c.ranges.number)) (c.deref.ensures ∙ c.in_ok-new.ensures)
    (c.deref-in-Ok.ensures ∙ c.in_ok-new.ensures) c.first_mode.ensures
    c.in-Ok.ensures c.fill.ensures

pub returns-then-tries-eq0 : goal.returns-then-tries-eq0
returns-then-tries-eq0 g t c =
    rw c.if-tries-eq0.true
    (after-unmade c.args.number Exists
    (c.deref.ensures ∙ c.in_ok-new.ensures) c.first_mode.ensures
    (rw c.in-Err-Exists.field-0-is at c.in-Err-Exists.ensures) (is-fault all_taken))

pub returns-in-Err-Exists : goal.returns-in-Err-Exists
returns-in-Err-Exists g t c =
    let more : (c.args.tries - 1) + 1 ≡ c.args.tries = omega (arith, c.if-tries-eq0.false) in
    after-taken c.args.number (c.args.tries - 1) c.number-number.result more
    (c.deref.ensures ∙ c.in_ok-new.ensures) c.first_mode.ensures
    (rw c.in-Err-Exists.field-0-is at c.in-Err-Exists.ensures) c.number-number.ensures c.replace.ensures

pub returns-in-Some : goal.returns-in-Some
returns-in-Some g t c =
    rw c.in-Some.is
    (after-unmade c.args.number Forbidden (c.deref.ensures ∙ c.in_ok-new.ensures)
    (rw c.in-Some.is at c.first_mode.ensures)
    (rw c.in-Err-Forbidden.field-0-is at c.in-Err-Forbidden.ensures)
    (done-for (λ course writes. in_place writes) c.write_in_place.ensures))

pub returns-in-Err-Forbidden : goal.returns-in-Err-Forbidden
returns-in-Err-Forbidden g t c =
    rw c.in-None.is
    (after-unmade c.args.number Forbidden (c.deref.ensures ∙ c.in_ok-new.ensures)
    (rw c.in-None.is at c.first_mode.ensures)
    (rw c.in-Err-Forbidden.field-0-is at c.in-Err-Forbidden.ensures) (is-fault forbidden))

pub returns : goal.returns
returns g t c =
    after-unmade c.args.number Failed
    (c.deref.ensures ∙ c.in_ok-new.ensures) c.first_mode.ensures
    (rw c.in-Err-Failed.field-0-is at c.in-Err-Failed.ensures) (is-fault failed)
