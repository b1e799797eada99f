use Rattle.po_compile.proofs.Prelude.{drop, filter, in_input_message, is_joined, map, row_view, ◌++◌, ◌≡◌}
use Rattle.po_compile.proofs.rows.add_rows.Given as goal

abbrev pub invariant-loop-index : goal.invariant-loop-index
invariant-loop-index l =
    map row_view l.rows.items ++ map (in_input_message l.input) (filter (is_joined l.headed) (drop l.index l.collected))
    ≡ map row_view l.fn.rows.items ++ map (in_input_message l.input) (filter (is_joined l.headed) l.collected)
