use Rattle.msgcat.proofs.Prelude.{ap, arith, booleans_Decides, err_from_is_err_and, inl, inr, length, messages, not_from_Decides, ◌<◌, ◌∙◌}
use Rattle.msgcat.proofs.MergedGroups.{fault_of_one, message_more}
use Rattle.msgcat.proofs.merged_text.push_messages.Goals as goal
use Rattle.msgcat.proofs.merged_text.push_messages.Goals.{else-is_obsolete-obsolete, then-is_obsolete-obsolete+in_ok-push_message}

pub returns-in_err-push_message-clause-fault : goal.returns-in_err-push_message-clause-fault
returns-in_err-push_message-clause-fault c =
    let p = err_from_is_err_and c.from_residual.result c.from_residual.ensures.1 in
    rw (p.1, p.2) (λ read h.
    let below : c.loop-number.number < length (messages read) =
    omega (arith, c.loop-number-test.true, c.message_count-number-end.ensures read h) in
    fault_of_one c.args.options.now (messages read) c.loop-number.number c.in_err-push_message.field-0.0 below
    (c.in_err-push_message.ensures.fault read h below))

pub loop-number-preserved : goal.loop-number-preserved
loop-number-preserved c = λ read h.
    let o = c.args.options.now in
    let i = c.loop-number.number in
    let below : i < length (messages read) =
    omega (arith, c.loop-number-test.true, c.message_count-number-end.ensures read h) in
    message_more o (messages read) i c.args.obsolete c.is_obsolete.result c.args.text.now.items
    c.loop-number.text.items c.if-is_obsolete-obsolete.text.items below (c.is_obsolete.ensures read o h below)
    (c.loop-number.invariant read h) (elim c.if-is_obsolete-obsolete.branch [
      | then-is_obsolete-obsolete+in_ok-push_message w ↦ inl (
        (booleans_Decides c.is_obsolete.result c.args.obsolete).0 w.if-is_obsolete-obsolete.true,
        ap (λ t. t.items) w.text-is ∙ w.in_ok-push_message.ensures.text read h below,
        w.in_ok-push_message.ensures.admitted read h below,
      )
      | else-is_obsolete-obsolete w ↦ inr (
        not_from_Decides _ (booleans_Decides c.is_obsolete.result c.args.obsolete) w.if-is_obsolete-obsolete.false,
        ap (λ t. t.items) w.text-is,
      )
    ])
