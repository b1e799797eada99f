use Rattle.process.proofs.Prelude.{given, group_given, had, sym, untold, ◌∙◌}
use Rattle.process.proofs.CallOutcomes.{once, other_owner, same_owner, then}
use Rattle.process.proofs.files.give_owner.Goals as goal

pub returns-in_err-now : goal.returns-in_err-now
returns-in_err-now g c = rw c.from_residual.ensures (once _ c.in_err-now.ensures untold)

pub returns-then-eq : goal.returns-then-eq
returns-then-eq g c =
    let same = same_owner c.in_ok-now.now c.args.owner (sym c.eq.ensures ∙ c.if-eq.true) in
    rw same (once _ (rw same at c.in_ok-now.ensures) had)

pub returns-then-give_owner : goal.returns-then-give_owner
returns-then-give_owner g c =
    then _ c.in_ok-now.ensures
    (then _ c.if-give_owner.ensures
    (once _ c.owner-then-give_owner.ensures
    (given (other_owner c.in_ok-now.now c.args.owner (sym c.eq.ensures ∙ c.if-eq.false)))))

pub returns : goal.returns
returns g c =
    then _ c.in_ok-now.ensures
    (then _ c.if-give_owner.ensures
    (then _ c.give_owner-2.ensures
    (once _ c.owner-2.ensures
    (group_given (other_owner c.in_ok-now.now c.args.owner (sym c.eq.ensures ∙ c.if-eq.false))))))
