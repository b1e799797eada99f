use Rattle.po_entry.proofs.Prelude.{All, All-cons, All-head, All-tail, IsUtf8, false≢true, forms_left, subst, sym, ◌∙◌}
use Rattle.po_entry.proofs.ref_checks.are_utf8.Goals as goal

pub loop-form-init : goal.loop-form-init
loop-form-init c = record {
  all = λ h. rw c.into_iter-form-iterator.ensures.into_iter_gives at h;
  rest = λ h. rw c.into_iter-form-iterator.ensures.into_iter_gives h;
}

pub returns-then-not-is_utf8 : goal.returns-then-not-is_utf8
returns-then-not-is_utf8 c = (
  λ t. absurd (false≢true t),
  λ all. absurd (false≢true (sym c.if-not-is_utf8.true ∙ c.is_utf8.ensures.1
      (All-head IsUtf8 c.in-Some.form.now (forms_left c.next.new.self)
      (subst (All IsUtf8) c.in-Some.ensures.steps (c.loop-form.invariant.rest all))))),
)

pub loop-form-preserved : goal.loop-form-preserved
loop-form-preserved c =
    let here = c.is_utf8.ensures.0 c.if-not-is_utf8.false in
    record {
      all = λ h. c.loop-form.invariant.all (subst (All IsUtf8) (sym c.in-Some.ensures.steps)
          (All-cons IsUtf8 c.in-Some.form.now (forms_left c.next.new.self) here h));
      rest = λ h. All-tail IsUtf8 c.in-Some.form.now (forms_left c.next.new.self)
          (subst (All IsUtf8) c.in-Some.ensures.steps (c.loop-form.invariant.rest h));
    }
