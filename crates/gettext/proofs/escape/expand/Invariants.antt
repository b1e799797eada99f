use Rattle.gettext.proofs.Prelude.{expansion, has_no_newline, length, ◌++◌, ◌||◌, ◌≡◌}
use Rattle.gettext.proofs.escape.expand.Given as goal

abbrev pub invariant-loop-bytes : goal.invariant-loop-bytes
invariant-loop-bytes l = record {
  bytes : l.bytes.items ++ expansion l.rest ≡ expansion l.text;
  newline : (l.no_newline || has_no_newline l.rest) ≡ has_no_newline l.text;
}

abbrev pub decreases-loop-bytes : goal.decreases-loop-bytes
decreases-loop-bytes l = length l.rest
