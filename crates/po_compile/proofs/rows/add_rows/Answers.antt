use Rattle.po_compile.proofs.Prelude.{InputMessage, List, LiveMessage, ap, arith, at_drop_more, drop, filter, in_input_message, is_joined, length, live_message, map, row_view, sym, ◌++◌, ◌+◌, ◌<◌, ◌∙◌, ◌∷◌}
use Rattle.po_compile.proofs.JoinedRows.{rows_more}
use Rattle.po_compile.proofs.CompiledMessages.{as_many, message_at}
use Rattle.po_compile.proofs.rows.add_rows.Goals as goal

pub loop-index-preserved : goal.loop-index-preserved
loop-index-preserved c =
    let own = c.collected.inside in
    let messages = c.args.collected.now in
    let i = c.loop-index.index in
    let entry = c.get.result in
    let message = live_message own.use_fuzzy entry in
    let here = message_at own.use_fuzzy own.live messages i entry c.collected.view_is c.get.ensures.entry in
    let inside : i < length messages =
    omega (arith, c.len-index-end.ensures, as_many own.use_fuzzy own.live messages c.collected.view_is) in
    let old = map row_view c.loop-index.rows.items in
    let new = map row_view c.add_row.new.rows.items in
    let rest = drop (i + 1) messages in
    let all : List LiveMessage → List InputMessage =
    λ ms. old ++ map (in_input_message c.args.input) (filter (is_joined c.args.headed) ms) in
    rows_more c.args.input c.args.headed old new (row_view c.row_of-row.result) message rest c.row_of-row.ensures
    c.in_ok-add_row.ensures
    ∙ ap (λ m. all (m ∷ rest)) (sym here) ∙ sym (at_drop_more all messages i message inside) ∙ c.loop-index.invariant
