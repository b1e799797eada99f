use Rattle.mo_lookup.proofs.Prelude.{[], ap, arith, drop, form_at, forms, slice_get, slice_get_past, suc, sym, ◌+◌, ◌-◌, ◌∙◌, ◌∷◌, ◌≡◌}
use Rattle.mo_lookup.proofs.FormPlaces.{form-zero, second-at, second-none}
use Rattle.mo_lookup.proofs.forms.form.Goals as goal

pub returns-in_err-start : goal.returns-in_err-start
returns-in_err-start c =
    let rest = drop c.loop.start c.args.translation.now in
    let none = second-none c.args.translation.now c.loop.start c.loop.invariant.0 c.in_err-start.ensures in
    rw c.from_residual.ensures
    (sym c.loop.invariant.1 ∙ ap (λ fs. slice_get fs (c.args.index - c.loop.counter)) none
    ∙ slice_get_past (rest ∷ []) (c.args.index - c.loop.counter) (omega (arith, c.loop-test.true)))

pub loop-preserved : goal.loop-preserved
loop-preserved c =
    let text = c.args.translation.now in
    let second = second-at text c.loop.start c.loop.invariant.0 c.in_ok-start.field-0 c.in_ok-start.ensures.0
    c.in_ok-start.ensures.1 in
    let same : c.loop.start + c.in_ok-start.field-0 + 1 ≡ c.loop.start + (c.in_ok-start.field-0 + 1) = omega arith in
    let later : c.args.index - c.loop.counter ≡ suc (c.args.index - (c.loop.counter + 1)) =
    omega (arith, c.loop-test.true) in (
      omega (arith, second.0, same),
      sym (ap (λ n. slice_get (forms (drop n text)) (c.args.index - (c.loop.counter + 1))) same)
          ∙ sym (ap (λ fs. slice_get fs (suc (c.args.index - (c.loop.counter + 1)))) second.1)
          ∙ sym (ap (slice_get (forms (drop c.loop.start text))) later) ∙ c.loop.invariant.1,
    )

pub returns : goal.returns
returns c =
    let rest = drop c.loop.start c.args.translation.now in (
      form_at (forms rest) 0,
      sym c.loop.invariant.1 ∙ form-zero rest (c.args.index - c.loop.counter) (omega arith),
      c.first_form.ensures,
    )
