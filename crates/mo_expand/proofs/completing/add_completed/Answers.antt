use Rattle.mo_expand.proofs.Prelude.{AreRising, ap, arith, keys, messages_of_borrowed, slice_range, strings_len, subst, sym, system_count, system_message, take, with_message, ◌<◌, ◌∙◌, ◌≡◌}
use Rattle.mo_expand.proofs.SystemMessages.{added, none_left, passed, room-full, room-next, split-len, split-message}
use Rattle.mo_expand.proofs.AddedMessages.{rising-with_message}
use Rattle.mo_expand.proofs.completing.add_completed.Goals.{in-Err-Absent, in-Ok}
use Rattle.mo_expand.proofs.completing.add_completed.Goals as goal

pub returns-in-Err-Full-clause-room : goal.returns-in-Err-Full-clause-room
returns-in-Err-Full-clause-room c none =
    let full = rw c.in-Err-Full.field-0-is at c.in-Err-Full.ensures.message in
    room-full _ _ c.loop-index.index _ _ _
    (omega (arith, c.loop-index-test.true, c.count_in-index-end.ensures.count)) c.loop-index.invariant.room
    full

pub loop-index-preserved : goal.loop-index-preserved
loop-index-preserved c =
    let inside : c.loop-index.index < system_count c.args.order c.args.bytes.now =
    omega (arith, c.loop-index-test.true, c.count_in-index-end.ensures.count) in
    elim c.match-expand_in.branch [
      | in-Ok w ↦
          let low = w.in-Ok.ensures.message.1 in
          let high = w.in-Ok.ensures.message.2 in
          let len : strings_len (system_message c.args.order c.args.bytes.now c.args.texts.now c.loop-index.index)
          ≡ w.in-Ok.end =
          split-len c.expand_in.new.room _ w.in-Ok.middle w.in-Ok.end low high w.in-Ok.ensures.message.0 in
          rw (w.list-is, w.count-is, w.rest-is)
          (record {
            added = added _ _ c.loop-index.index _ _ _ _ inside c.loop-index.invariant.added w.in-Ok.ensures.message.0
                (w.insert-count.ensures.messages
                ∙ ap (λ m. with_message m (messages_of_borrowed (take c.loop-index.count c.loop-index.list)))
                (split-message c.expand_in.new.room _ _ w.in-Ok.middle w.in-Ok.end low
                (ap (take w.in-Ok.middle) w.split_at_mut-written.ensures.front)
                (ap (λ l. slice_range l w.in-Ok.middle w.in-Ok.end) w.split_at_mut-written.ensures.front)));
            rising =
                subst (λ ms. AreRising (keys ms)) (sym w.insert-count.ensures.messages)
                (rising-with_message _ _ c.loop-index.invariant.rising);
            many = omega (arith, w.insert-count.ensures.more, c.loop-index.invariant.many);
            room = room-next _ _ c.loop-index.index _ _ _ _ inside c.loop-index.invariant.room
                (omega (arith, len, w.split_at_mut-written.ensures.back_len, c.expand_in.ensures.len));
          })
      | in-Err-Absent w ↦
          let absent = rw w.in-Err-Absent.field-0-is at w.in-Err-Absent.ensures.message in
          let len : strings_len (system_message c.args.order c.args.bytes.now c.args.texts.now c.loop-index.index) ≡ 0 =
          ap strings_len absent in
          rw (w.list-is, w.count-is, w.rest-is)
          (record {
            added = passed _ _ c.loop-index.index _ _ inside c.loop-index.invariant.added absent;
            rising = c.loop-index.invariant.rising;
            many = omega (arith, c.loop-index.invariant.many);
            room = room-next _ _ c.loop-index.index _ _ _ _ inside c.loop-index.invariant.room
                (omega (arith, len, c.expand_in.ensures.len));
          })
    ]

pub returns-clause-messages : goal.returns-clause-messages
returns-clause-messages c =
    sym (none_left _ _ c.loop-index.index _
    (omega (arith, c.loop-index-test.false, c.count_in-index-end.ensures.count)))
    ∙ c.loop-index.invariant.added
