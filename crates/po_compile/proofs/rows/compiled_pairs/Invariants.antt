use Rattle.po_compile.proofs.Prelude.{compiled_of, map, messages_of_borrowed, row_view, take, ◌≡◌}
use Rattle.po_compile.proofs.rows.compiled_pairs.Given as goal

abbrev pub invariant-loop-row : goal.invariant-loop-row
invariant-loop-row l = messages_of_borrowed l.pairs.items ≡ compiled_of (map row_view (take l.row-index l.rows))
