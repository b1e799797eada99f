use Rattle.mo_expand.proofs.Prelude.{IsJoining, joined, text_at, ◌*◌, ◌+◌, ◌-◌, ◌^◌, ◌≤◌}
use Rattle.mo_expand.proofs.joining.put_text.Given as goal

abbrev pub invariant-loop-i : goal.invariant-loop-i
invariant-loop-i l = record {
  joining : IsJoining l.initial.room l.room l.start l.at
      (text_at l.order l.bytes l.texts l.described) (joined l.order l.bytes l.texts (256 - l.i) l.descriptor l.source);
  described : l.descriptor ≤ 2 ^ 32 + 8 * l.i + 4;
  read : l.source ≤ 2 ^ 32 * (l.i + 1);
}
