use Rattle.po_compile.proofs.Prelude.{InputMessage, compiled_view, filter, map, row_view, take, view_of_message, ◌≡◌}
use Rattle.po_compile.proofs.messages.compiled_messages.Given as goal

abbrev pub invariant-loop-row : goal.invariant-loop-row
invariant-loop-row l =
    map compiled_view l.messages.items
    ≡ map view_of_message (filter (λ (m : InputMessage). m.message.status.compiled)
    (map row_view (take l.row-index l.row-items)))
