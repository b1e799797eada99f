use Rattle.msgcat.proofs.Prelude.{length, ◌-◌}
use Rattle.msgcat.proofs.MessageLinks.{AreLinkedFrom}
use Rattle.msgcat.proofs.merge_inputs.MergeInputs.of.Given as goal

-- the last entries are linked
abbrev pub invariant-loop-done : goal.invariant-loop-done
invariant-loop-done l =
    AreLinkedFrom l.numbers l.count (length l.numbers - l.done) l.firsts.items l.next.items
