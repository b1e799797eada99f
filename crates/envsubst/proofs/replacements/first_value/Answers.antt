use Rattle.envsubst.proofs.Prelude.{ap, cond-false, cond-true, drop_all, pairs_in, sym, value_of, ◌∙◌}
use Rattle.envsubst.proofs.Variables.{value_of-next}
use Rattle.envsubst.proofs.replacements.first_value.Goals as goal

pub returns-then-eq : goal.returns-then-eq
returns-then-eq c =
    sym (cond-true _ _ _ (sym c.if-eq.ensures))
    ∙ sym (value_of-next c.args.vars.now c.args.name.now c.loop-known.known-index _ c.loop-known-test.true)
    ∙ c.loop-known.invariant

pub loop-known-preserved : goal.loop-known-preserved
loop-known-preserved c =
    sym (cond-false _ _ _ (sym c.if-eq.ensures))
    ∙ sym (value_of-next c.args.vars.now c.args.name.now c.loop-known.known-index _ c.loop-known-test.true)
    ∙ c.loop-known.invariant

pub returns : goal.returns
unfolding value_of
returns c = sym (ap (λ vs. value_of (pairs_in vs) c.args.name.now)
    (drop_all c.loop-known.known-index c.args.vars.now c.loop-known-test.false)) ∙ c.loop-known.invariant
