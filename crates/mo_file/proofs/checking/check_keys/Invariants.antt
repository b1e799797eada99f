use Rattle.mo_file.proofs.Prelude.{AreRisingBelow, key_of, original_at, ◌+◌, ◌≡◌}
use Rattle.mo_file.proofs.checking.check_keys.Given as goal

abbrev pub invariant-loop-i : goal.invariant-loop-i
invariant-loop-i g l = record {
  sorted : AreRisingBelow l.header.order l.bytes (l.i + 1);
  current : key_of l.text ≡ key_of (original_at l.header.order l.bytes l.i);
  cost : l.meter ≡ l.initial.meter + l.i;
}
