use Rattle.msgcat.proofs.Prelude.{merged}
use Rattle.msgcat.proofs.MergedGroups.{both_written}
use Rattle.msgcat.proofs.merged_text.merged_text.Goals as goal

pub returns : goal.returns
returns c = λ read h.
    both_written (merged c.args.options.now read) c.push_messages.new.text.items c.push_messages-2.new.text.items
    (rw c.clear.ensures.items at (c.in_ok-push_messages.ensures.pushed read h))
    (c.in_ok-push_messages-2.ensures.pushed read h)
