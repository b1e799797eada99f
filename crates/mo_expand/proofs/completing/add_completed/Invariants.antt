use Rattle.mo_expand.proofs.Prelude.{AreRising, expanded_messages, keys, length, map, messages_of_borrowed, range_with_len, strings_len, sum_by, system_count, system_message, system_messages, take, with_messages, ◌+◌, ◌-◌, ◌≡◌, ◌≤◌}
use Rattle.mo_expand.proofs.completing.add_completed.Given as goal

abbrev pub invariant-loop-index : goal.invariant-loop-index
invariant-loop-index l = record {
  added : with_messages (messages_of_borrowed (take l.count l.list))
      (map (system_message l.order l.bytes l.texts) (range_with_len l.index (system_count l.order l.bytes - l.index)))
      ≡ expanded_messages l.order l.bytes l.texts (messages_of_borrowed (take l.own l.initial.list));
  rising : AreRising (keys (messages_of_borrowed (take l.count l.list)));
  many : l.count ≤ l.own + l.index;
  room : sum_by strings_len
      (map (system_message l.order l.bytes l.texts) (range_with_len l.index (system_count l.order l.bytes - l.index)))
      + length l.initial.rest
      ≡ sum_by strings_len (system_messages l.order l.bytes l.texts) + length l.rest;
}
