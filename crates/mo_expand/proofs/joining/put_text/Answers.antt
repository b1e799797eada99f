use Rattle.mo_expand.proofs.Prelude.{IsJoining, None, Some, arith, joined, subst, suc, sym, text_at, ◌+◌, ◌-◌, ◌≡◌}
use Rattle.mo_expand.proofs.SegmentTexts.{joining-goes_on, joining-has_ended, joining-is_full_before, joining-last, joining-step}
use Rattle.mo_expand.proofs.joining.put_text.Goals as goal

pub returns-in-None-clause-text : goal.returns-in-None-clause-text
returns-in-None-clause-text c =
    let left : 256 - c.loop-i.i ≡ suc (256 - (c.loop-i.i + 1)) = omega arith in
    let j = joining-step _ _ _ _ _ _ _ _ _ _ _ _ None left c.in-None.ensures.segment c.loop-i.invariant.joining in
    j.is

pub returns-in-Some-Last-clause-text : goal.returns-in-Some-Last-clause-text
returns-in-Some-Last-clause-text c =
    let left : 256 - c.loop-i.i ≡ suc (256 - (c.loop-i.i + 1)) = omega arith in
    let first = joining-step _ _ _ _ _ _ _ _ _ _ _ _
    (Some c.in-Some-Last.field-0) left c.in-Some-Last.ensures.segment c.loop-i.invariant.joining in
    let j = rw c.in-Some-Last.field-0-is at first in
    rw c.ok_or.ensures.value (joining-last _ _ _ _ _ _ _ _ j c.put.ensures.end c.put.ensures.len)

pub returns-in_default-clause-text : goal.returns-in_default-clause-text
returns-in_default-clause-text c =
    let left : 256 - c.loop-i.i ≡ suc (256 - (c.loop-i.i + 1)) = omega arith in
    let first = joining-step _ _ _ _ _ _ _ _ _ _ _ _
    (Some c.in-Some-Before.field-0) left c.in-Some-Before.ensures.segment c.loop-i.invariant.joining in
    let j = rw c.in-Some-Before.field-0-is at first in
    joining-is_full_before _ _ _ _ _ c.in-Some-Before.literal.now c.in-Some-Before.text.now _ j c.in_default.ensures.end

pub loop-i-preserved : goal.loop-i-preserved
loop-i-preserved c =
    let left : 256 - c.loop-i.i ≡ suc (256 - (c.loop-i.i + 1)) = omega arith in
    let first = joining-step _ _ _ _ _ _ _ _ _ _ _ _
    (Some c.in-Some-Before.field-0) left c.in-Some-Before.ensures.segment c.loop-i.invariant.joining in
    let j = rw c.in-Some-Before.field-0-is at first in
    let next = joining-goes_on _ _ _ _ _ _ _ c.in-Some-Before.literal.now c.in-Some-Before.text.now _ j
    c.in-Some.ensures.end c.put_both.ensures.len in
    record {
      joining = subst (λ n. IsJoining c.args.room.now c.put_both.new.room c.args.start c.in-Some.end
          (text_at c.args.order c.args.bytes.now c.args.texts.now c.args.described)
          (joined c.args.order c.args.bytes.now c.args.texts.now (256 - (c.loop-i.i + 1)) (c.loop-i.descriptor + 8)
          (c.loop-i.source + n))) (sym c.word.ensures) next;
      described = omega (arith, c.loop-i.invariant.described);
      read = omega (arith, c.loop-i.invariant.read);
    }

pub returns-clause-text : goal.returns-clause-text
returns-clause-text c = joining-has_ended _ _ _ _ _ _ _ _ _ _ _ (omega arith) c.loop-i.invariant.joining
