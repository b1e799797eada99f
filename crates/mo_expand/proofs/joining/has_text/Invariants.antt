use Rattle.mo_expand.proofs.Prelude.{is_some, joined, text_at, ◌*◌, ◌+◌, ◌-◌, ◌^◌, ◌≡◌, ◌≤◌}
use Rattle.mo_expand.proofs.joining.has_text.Given as goal

abbrev pub invariant-loop-i : goal.invariant-loop-i
invariant-loop-i l = record {
  same : is_some (text_at l.order l.bytes l.texts l.described)
      ≡ is_some (joined l.order l.bytes l.texts (256 - l.i) l.descriptor l.source);
  described : l.descriptor ≤ 2 ^ 32 + 8 * l.i + 4;
  read : l.source ≤ 2 ^ 32 * (l.i + 1);
}
