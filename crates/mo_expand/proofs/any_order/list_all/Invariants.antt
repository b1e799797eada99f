use Rattle.mo_expand.proofs.Prelude.{messages_of, messages_of_borrowed, take, ◌≡◌}
use Rattle.mo_expand.proofs.any_order.list_all.Given as goal

abbrev pub invariant-loop-i : goal.invariant-loop-i
invariant-loop-i l = messages_of_borrowed (take l.i l.list) ≡ take l.i (messages_of l.order l.bytes)
