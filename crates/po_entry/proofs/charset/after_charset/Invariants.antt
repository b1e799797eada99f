use Rattle.po_entry.proofs.Prelude.{after_charset, length, ◌≡◌}
use Rattle.po_entry.proofs.charset.after_charset.Given as goal

abbrev pub invariant-loop-next : goal.invariant-loop-next
invariant-loop-next l = after_charset l.rest ≡ after_charset l.header

abbrev pub decreases-loop-next : goal.decreases-loop-next
decreases-loop-next l = length l.rest
