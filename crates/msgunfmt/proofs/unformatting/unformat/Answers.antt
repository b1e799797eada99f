use Rattle.msgunfmt.proofs.Prelude.{IsEntry, ap, arith, err_from_is_err_and, length, sym, take, unformatted, with_entry, written_text, ◌∙◌, ◌≡◌}
use Rattle.msgunfmt.proofs.Messages.{admitted_more, all_more, all_written, foreign_more, in_file, live_message, live_messages, one_more, refused_messages, some_foreign}
use Rattle.msgunfmt.proofs.unformatting.unformat.Goals as goal

pub returns-in_err-is_admitted : goal.returns-in_err-is_admitted
returns-in_err-is_admitted c =
    let p = err_from_is_err_and c.from_residual-in_err-is_admitted.result
    c.from_residual-in_err-is_admitted.ensures.1 in
    let why = c.in_err-is_admitted.ensures.fault in
    let file = c.in_ok-view.ensures.exact in
    rw (p.1, p.2) (in_file c.args.bytes.now _ file.0 c.in_ok-view.view.messages file.1
    (refused_messages c.in_ok-view.view.messages why.0 c.loop-i.i why.1 c.loop-i.invariant.valid _ why.2))

pub loop-i-preserved : goal.loop-i-preserved
loop-i-preserved c =
    let messages = c.in_ok-view.view.messages in
    let i = c.loop-i.i in
    let more = c.in_ok-is_admitted.ensures.appended in
    let at = more.is_entry in
    let before = c.loop-i.invariant in
    record {
      written = more.text ∙ ap (λ text. with_entry text more.entry) before.written
          ∙ c.live_entry_is_added.ensures (take i (unformatted messages)) more.entry (live_messages i messages)
          (live_message messages i more.entry at)
          ∙ ap written_text (sym (one_more messages i more.entry at));
      valid = all_more messages i more.entry at IsEntry before.valid more.valid;
      admitted = admitted_more messages i more.entry at c.loop-i.is_admitted _ more.admitted before.admitted;
      foreign = foreign_more messages i more.entry at c.loop-i.is_admitted _ more.admitted before.foreign;
    }

pub returns-then-not-is_admitted : goal.returns-then-not-is_admitted
returns-then-not-is_admitted c =
    let messages = c.in_ok-view.view.messages in
    let end : c.loop-i.i ≡ length messages =
    omega (arith, c.loop-i.auto, c.loop-i-test.false, c.len-i-end.ensures.count) in
    let done = c.loop-i.invariant in
    let file = c.in_ok-view.ensures.exact in
    record {
      order = file.0;
      messages = messages;
      valid = file.1;
      holds = some_foreign messages c.loop-i.i end done.valid (done.foreign c.if-not-is_admitted.true);
    }

pub returns : goal.returns
returns c =
    let messages = c.in_ok-view.view.messages in
    let end : c.loop-i.i ≡ length messages =
    omega (arith, c.loop-i.auto, c.loop-i-test.false, c.len-i-end.ensures.count) in
    let done = c.loop-i.invariant in
    let file = c.in_ok-view.ensures.exact in
    record {
      order = file.0;
      messages = messages;
      valid = file.1;
      holds = all_written messages c.loop-i.i end done.valid c.loop-i.text.items done.written
          (done.admitted c.if-not-is_admitted.false);
    }
