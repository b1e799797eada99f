use Rattle.po_compile.proofs.Prelude.{All-more, AllApart, EachApart, IsRepeat, JoinError, [], all_messages, ap, fault_of_input, get_or_default, in_input_message, inl, input_keys, inr, map, message_keys, refl, subst, take_all, ⊎_elim, ◌∙◌}
use Rattle.po_compile.proofs.DistinctKeys.{only_keys, only_messages}
use Rattle.po_compile.proofs.repeats.check_each.Goals as goal

pub loop-input-preserved : goal.loop-input-preserved
loop-input-preserved c =
    let messages = c.index-inputs-input.result in
    let apart = subst (λ ms. AllApart (input_keys (all_messages ms))) c.from_ref.ensures.value c.in-Ok.ensures.apart in
    All-more (λ ms. AllApart (message_keys ms)) c.args.inputs.now c.loop-input.input messages c.loop-input-test.true
    c.loop-input.invariant
    (subst (λ ms. AllApart (message_keys ms)) c.index-inputs-input.is (subst AllApart (only_keys messages) apart))

pub returns-clause-apart : goal.returns-clause-apart
returns-clause-apart c =
    subst EachApart (take_all c.loop-input.input c.args.inputs.now c.loop-input-test.false) c.loop-input.invariant

pub returns-in-Err-clause-fault : goal.returns-in-Err-clause-fault
returns-in-Err-clause-fault c =
    let messages = c.index-inputs-input.result in
    let i = c.loop-input.input in
    let error = c.in-Err.error in
    let here = c.index-inputs-input.is ∙ get_or_default c.args.inputs.now i messages [] c.loop-input-test.true in
    rw c.fault_of_input.ensures
    (⊎_elim (λ memory. inl (ap (λ (e : JoinError). fault_of_input i e.error) memory))
    (λ repeat. inr (record {
      index = i;
      inside = c.loop-input-test.true;
      before = c.loop-input.invariant;
      alone = error;
      repeat = subst (λ ms. IsRepeat ms error)
          (ap all_messages c.from_ref.ensures.value ∙ only_messages messages ∙ ap (map (in_input_message 0)) here)
          repeat;
      error_is = refl;
    })) c.in-Err.ensures.fault)
