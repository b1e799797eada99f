use Rattle.envsubst.proofs.Prelude.{Err, Keeps-refl, ap, arith, err_from_is_err_and, length, lit≤, nat_tests, refl, sym, take, ◌+◌, ◌<◌, ◌∙◌, ◌≡◌}
use Rattle.envsubst.proofs.Runs.{ends-within, fed-finish, fed-more, fed-none, fed-read_fault, fed-write_fault, gave-end, gave-more, gave-none, on-ok, same-values}
use Rattle.envsubst.proofs.whole_input.substitute_all.Goals as goal

pub loop-init : goal.loop-init
loop-init g c = record {
  fed = fed-none _ _ _ _ c.new-substituter.ensures.held;
  vars = c.new-substituter.ensures.vars;
  only = c.new-substituter.ensures.only;
  sound = c.new-substituter.ensures.has_failed;
  few = rw c.new-substituter.ensures.held (lit≤ tt);
  empty = c.requires.empty;
  plain = λ is. is;
  calls = omega arith;
  gave = gave-none _;
  no_read_failure = refl;
  no_write_failure = refl;
}

pub returns-in-Ok-eq0-clause-output : goal.returns-in-Ok-eq0-clause-output
returns-in-Ok-eq0-clause-output g c =
    let room : 0 < length c.pull.new.buf = grind (arith, c.pull.auto.buf) in
    fed-finish _ _ _ _ _ _ _ _ _ _ _ c.finish.result
    (same-values _ _ _ _ c.loop.invariant.vars c.loop.invariant.only) c.loop.invariant.fed c.in-Ok-eq0.ensures.bytes
    c.in-Ok-eq0.field-0-test room c.finish.ensures.ok c.finish.ensures.prefix c.finish.ensures.fault

pub returns-in_err-block-in-Ok-clause-output : goal.returns-in_err-block-in-Ok-clause-output
returns-in_err-block-in-Ok-clause-output g c =
    let p = err_from_is_err_and c.from_residual.result c.from_residual.ensures.1 in
    rw p.1
    (ends-within _ _ _ _ _ p.0
    (λ is. c.in_err-block-in-Ok.ensures.no_read_fault (ap (λ fault. Err fault) (sym p.2 ∙ is)))
    (fed-write_fault _ _ _ _ _ _ _ _ _ _
    (same-values _ _ _ _ c.loop.invariant.vars c.loop.invariant.only) c.loop.invariant.fed c.in-Ok.ensures.bytes.0
    c.in_err-block-in-Ok.ensures.stops))

pub returns-in-Err-clause-output : goal.returns-in-Err-clause-output
returns-in-Err-clause-output g c =
    fed-read_fault _ _ _ _ _ _ _ c.loop.invariant.few c.loop.invariant.fed c.in-Err.ensures.bytes

pub loop-preserved : goal.loop-preserved
loop-preserved g c = record {
  fed = fed-more _ _ _ _ _ _ _ _ _ _ _
      (same-values _ _ _ _ c.loop.invariant.vars c.loop.invariant.only) c.loop.invariant.fed c.in-Ok.ensures.bytes.0
      c.in_ok-block-in-Ok.ensures.ok;
  vars = c.in_ok-block-in-Ok.ensures.vars ∙ c.loop.invariant.vars;
  only = c.in_ok-block-in-Ok.ensures.only ∙ c.loop.invariant.only;
  sound = c.in_ok-block-in-Ok.ensures.sound;
  empty = c.in_ok-block-in-Ok.ensures.empty;
  plain = λ is. c.in_ok-block-in-Ok.ensures.plain (c.loop.invariant.plain is);
  few = c.in_ok-block-in-Ok.ensures.few;
  calls = omega (arith, c.in-Ok.ensures.counts);
  gave =
      let whole : c.in-Ok.count ≡ length (take c.in-Ok.count c.pull.new.buf) = c.in-Ok.ensures.bound.1 in
      gave-more _ _ _ _ _ c.loop.invariant.gave c.in-Ok.ensures.bytes.0
      (grind (arith, nat_tests, whole, c.in-Ok.count-test.1));
  no_read_failure = omega (arith, c.in-Ok.ensures.fails);
  no_write_failure = omega (arith, c.in_ok-block-in-Ok.ensures.failures, c.loop.invariant.no_write_failure);
}

pub returns-clause-output : goal.returns-clause-output
returns-clause-output g c = fed-read_fault _ _ _ _ _ _ _ c.loop.invariant.few c.loop.invariant.fed (Keeps-refl _)

pub returns-in-Ok-eq0-clause-end : goal.returns-in-Ok-eq0-clause-end
returns-in-Ok-eq0-clause-end g c =
    on-ok _ _ (gave-end _ _ _ _ _ c.loop.invariant.gave
    (c.in-Ok-eq0.ensures.counts ∙ ap (λ n. n + 1) c.loop.invariant.calls))
