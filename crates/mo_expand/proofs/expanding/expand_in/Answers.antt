use Rattle.mo_expand.proofs.Prelude.{message_from, rules, sym, system_message, text_at, ◌∙◌, ◌≡◌}
use Rattle.mo_expand.proofs.SegmentTexts.{full-there}
use Rattle.mo_expand.proofs.expanding.expand_in.Goals as goal

pub returns-else-not-has_text-2-clause-message : goal.returns-else-not-has_text-2-clause-message
returns-else-not-has_text-2-clause-message c =
    let text = text_at c.args.order c.args.bytes.now c.args.texts.now in
    let is : system_message c.args.order c.args.bytes.now c.args.texts.now c.args.index
    ≡ message_from (text c.word-original.result) (text c.word-translation.result) = search rules in
    rw is
    (full-there c.args.room.now c.put_strings.new.room (text c.word-original.result) (text c.word-translation.result)
    (sym c.has_text.ensures ∙ c.if-not-has_text.false)
    (sym c.has_text-in-Err-Full.ensures ∙ c.if-not-has_text-2.false)
    (rw c.in-Err-Full.field-0-is at c.in-Err-Full.ensures.message))
