use Rattle.po_entry.proofs.Prelude.{length, map, moved, take, ◌++◌, ◌+◌, ◌≡◌, ◌≤◌}
use Rattle.std.specs.Vec.{vec_capacity, vec_len}
use Rattle.po_entry.proofs.store.add_rows.Given as goal

abbrev pub invariant-loop-row : goal.invariant-loop-row
invariant-loop-row l = record {
  added : l.rows.items ≡ l.initial.rows.items ++ map (moved l.start) (take l.row-index l.more);
  room : vec_len l.initial.rows + length l.more ≤ vec_capacity l.rows;
}
