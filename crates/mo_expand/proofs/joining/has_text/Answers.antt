use Rattle.mo_expand.proofs.Prelude.{ap, arith, is_some, joined, suc, sym, ◌+◌, ◌-◌, ◌∙◌, ◌≡◌}
use Rattle.mo_expand.proofs.SegmentTexts.{is_some-before, joined-none, joined-step}
use Rattle.mo_expand.proofs.joining.has_text.Goals as goal

pub returns-in-None : goal.returns-in-None
returns-in-None c =
    let left : 256 - c.loop-i.i ≡ suc (256 - (c.loop-i.i + 1)) = omega arith in
    sym (c.loop-i.invariant.same ∙ ap is_some (joined-step _ _ _ _ _ _ _ left ∙ c.in-None.ensures.segment _))

pub returns-in-Some-Last : goal.returns-in-Some-Last
returns-in-Some-Last c =
    let left : 256 - c.loop-i.i ≡ suc (256 - (c.loop-i.i + 1)) = omega arith in
    let first = rw c.in-Some-Last.field-0-is at c.in-Some-Last.ensures.segment in
    sym (c.loop-i.invariant.same ∙ ap is_some (joined-step _ _ _ _ _ _ _ left ∙ first _))

pub loop-i-preserved : goal.loop-i-preserved
loop-i-preserved c =
    let left : 256 - c.loop-i.i ≡ suc (256 - (c.loop-i.i + 1)) = omega arith in
    let first = rw c.in-Some-Before.field-0-is at c.in-Some-Before.ensures.segment in
    record {
      same = c.loop-i.invariant.same
          ∙ ap is_some (joined-step _ _ _ _ _ _ _ left ∙ first _)
          ∙ is_some-before c.in-Some-Before.field-0-0.now c.in-Some-Before.field-0-1.now _
          ∙ ap (λ n. is_some (joined c.args.order c.args.bytes.now c.args.texts.now (256 - (c.loop-i.i + 1))
          (c.loop-i.descriptor + 8) (c.loop-i.source + n))) (sym c.word.ensures);
      described = omega (arith, c.loop-i.invariant.described);
      read = omega (arith, c.loop-i.invariant.read);
    }

pub returns : goal.returns
returns c =
    let over : 256 - c.loop-i.i ≡ 0 = omega arith in
    sym (c.loop-i.invariant.same
    ∙ ap (λ n. is_some (joined c.args.order c.args.bytes.now c.args.texts.now n c.loop-i.descriptor c.loop-i.source))
    over
    ∙ ap is_some (joined-none _ _ _ _ _))
