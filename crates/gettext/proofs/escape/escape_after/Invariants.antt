use Rattle.gettext.proofs.Prelude.{get_or, is_octal, length, octal_value, take, true, ℕ, ◌-◌, ◌<◌, ◌≡◌, ◌≤◌}
use Rattle.gettext.proofs.escape.escape_after.Given as goal

abbrev pub invariant-loop-size : goal.invariant-loop-size
invariant-loop-size l = record {
  value : l.value ≡ octal_value (take l.size l.prefix);
  byte : l.value < 256;
  within : l.size ≤ length l.prefix;
  octal : (k : ℕ) → k < l.size → is_octal (get_or l.prefix k 0) ≡ true;
}

abbrev pub decreases-loop-size : goal.decreases-loop-size
decreases-loop-size l = length l.prefix - l.size
