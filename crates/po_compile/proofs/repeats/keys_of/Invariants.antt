use Rattle.po_compile.proofs.Prelude.{input_keys, map, row_view, slice_texts, take, ◌≡◌}
use Rattle.po_compile.proofs.repeats.keys_of.Given as goal

abbrev pub invariant-loop-row : goal.invariant-loop-row
invariant-loop-row l = slice_texts l.keys.items ≡ input_keys (map row_view (take l.row-index l.row-items))
