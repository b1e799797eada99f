use Rattle.mo_expand.proofs.Prelude.{messages_of_borrowed, take, ◌≡◌}
use Rattle.mo_expand.proofs.listing.list_own.Given as goal

abbrev pub invariant-loop-i : goal.invariant-loop-i
invariant-loop-i l = record {
  listed : messages_of_borrowed (take l.i l.list) ≡ take l.i l.view.messages;
  looks : l.meter ≡ l.i;
}
