use Rattle.po_entry.proofs.Prelude.{take}
use Rattle.po_entry.proofs.MessageKeys.{AreSeen}
use Rattle.po_entry.proofs.keys.message_numbers.Given as goal

-- the entries so far are numbered
abbrev pub invariant-loop-index : goal.invariant-loop-index
invariant-loop-index l = AreSeen (take l.index l.store) l.seen l.numbers.items
