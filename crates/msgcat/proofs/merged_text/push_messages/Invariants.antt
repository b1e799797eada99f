use Rattle.msgcat.proofs.Prelude.{HoldInputs, IsPartWritten, List, Named, merged_messages, messages, take}
use Rattle.msgcat.proofs.merged_text.push_messages.Given as goal

-- what the messages so far are merged to is written
abbrev pub invariant-loop-number : goal.invariant-loop-number
invariant-loop-number l = (read : List Named) → HoldInputs read l.inputs
    → IsPartWritten l.obsolete (merged_messages l.options (take l.number (messages read))) l.fn.text.items l.text.items
