use Rattle.po_compile.proofs.Prelude.{all_messages, drop, joined_messages, map, row_view, ◌++◌, ◌≡◌}
use Rattle.po_compile.proofs.rows.joined_rows.Given as goal

abbrev pub invariant-loop-input : goal.invariant-loop-input
invariant-loop-input l =
    map row_view l.rows.items ++ joined_messages l.input l.headed (drop l.input l.inputs) ≡ all_messages l.inputs
