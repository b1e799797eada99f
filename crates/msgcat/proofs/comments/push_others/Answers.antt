use Rattle.msgcat.proofs.Prelude.{ap, arith, texts_left}
use Rattle.msgcat.proofs.SeenTexts.{all_taken, new_taken, none_taken, old_passed}
use Rattle.msgcat.proofs.comments.push_others.Goals as goal

pub loop-text-init : goal.loop-text-init
loop-text-init c = record {
  taken = none_taken c.args.done.now c.args.seen.now (texts_left c.args.others) _ c.requires
      (ap texts_left c.into_iter-text-iterator.ensures.into_iter_gives);
  earlier = c.len-earlier.ensures;
}

pub loop-text-preserved-in_ok-push : goal.loop-text-preserved-in_ok-push
loop-text-preserved-in_ok-push c =
    let inv = c.loop-text.invariant in
    record {
      taken = rw (c.in_ok-push.ensures.ok, c.in_ok-add.ensures.seen)
          (new_taken c.args.done.now c.args.seen.now (texts_left c.args.others) c.loop-text.done c.loop-text.seen
          (texts_left c.loop-text.text-iterator) (texts_left c.next.new.self) c.in-Some.text.now c.in_ok-add.field-0
          c.requires inv.taken c.in-Some.ensures.steps c.in_ok-add.ensures.index
          (omega (arith, inv.earlier, c.if-branch-earlier.true)));
      earlier = inv.earlier;
    }

pub loop-text-preserved : goal.loop-text-preserved
loop-text-preserved c =
    let inv = c.loop-text.invariant in
    record {
      taken = rw (c.in_ok-add.ensures.seen)
          (old_passed c.args.done.now c.args.seen.now (texts_left c.args.others) c.loop-text.done c.loop-text.seen
          (texts_left c.loop-text.text-iterator) (texts_left c.next.new.self) c.in-Some.text.now c.in_ok-add.field-0
          c.requires inv.taken c.in-Some.ensures.steps c.in_ok-add.ensures.index
          (omega (arith, inv.earlier, c.if-branch-earlier.false)));
      earlier = inv.earlier;
    }

pub returns-clause-seen : goal.returns-clause-seen
returns-clause-seen c =
    (all_taken c.args.done.now c.args.seen.now (texts_left c.args.others) c.loop-text.done c.loop-text.seen _
    c.loop-text.invariant.taken c.in-None.ensures.steps.0).1
