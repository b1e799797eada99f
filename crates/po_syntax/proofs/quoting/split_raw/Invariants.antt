use Rattle.po_syntax.proofs.Prelude.{is_raw, length, prefix_len, ◌+◌, ◌≡◌, ◌≤◌}
use Rattle.po_syntax.proofs.quoting.split_raw.Given as goal

abbrev pub invariant-loop-block : goal.invariant-loop-block
invariant-loop-block l = record {
  count : length l.bytes + prefix_len is_raw l.rest ≡ length l.rest + prefix_len is_raw l.bytes;
  within : length l.rest ≤ length l.bytes;
}

abbrev pub decreases-loop-block : goal.decreases-loop-block
decreases-loop-block l = length l.rest
