use Rattle.po_compile.proofs.Prelude.{CompiledView, InputMessage, List, [], all_messages, ap, ap₂, compiled_view, filter, map, map-append, row_view, sym, take_all, view_of_message, ℕ, ◌++◌, ◌∙◌, ◌∷◌}
use Rattle.po_compile.proofs.CompiledMessages.{one_kept, one_omitted}
use Rattle.po_compile.proofs.JoinedRows.{joined_valid}
use Rattle.po_compile.proofs.SortedMessages.{compiled_views}
use Rattle.po_compile.proofs.messages.compiled_messages.Goals as goal
use Rattle.po_compile.proofs.messages.compiled_messages.Goals.{else-row, then-row+in_ok-push}

pub loop-row-preserved : goal.loop-row-preserved
loop-row-preserved c =
    let rows = c.deref-row-items.result.now in
    let i = c.loop-row.row-index in
    let row = c.row-item.result in
    let inside = c.loop-row-test.true in
    let here = c.row-item.is in
    let with : ℕ → List ℕ → List ℕ → List CompiledView = λ line original translation.
    map compiled_view c.loop-row.messages.items ++ record {
      input = row.input;
      line = line;
      message = record { original = original; translation = translation };
    } ∷ [] in
    elim c.if-row.branch [
      | then-row+in_ok-push w ↦
          ap (λ v. map compiled_view v.items) w.messages-is ∙ ap (map compiled_view) w.in_ok-push.ensures.items
          ∙ map-append compiled_view c.loop-row.messages.items _
          ∙ ap (λ line. with line w.original.result.now w.translation.result.now) w.line.ensures
          ∙ ap₂ (with row.live.line) w.original.ensures w.translation.ensures
          ∙ ap (λ l. l ++ view_of_message (row_view row) ∷ []) c.loop-row.invariant
          ∙ sym (one_kept view_of_message rows i row inside here w.if-row.true)
      | else-row w ↦
          ap (λ v. map compiled_view v.items) w.messages-is ∙ c.loop-row.invariant
          ∙ sym (one_omitted view_of_message rows i row inside here w.if-row.false)
    ]

pub returns-clause-messages : goal.returns-clause-messages
returns-clause-messages c = λ use_fuzzy catalogues held.
    let view = λ (ms : List InputMessage). map view_of_message (filter (λ m. m.message.status.compiled) ms) in
    c.loop-row.invariant
    ∙ ap (λ rs. view (map row_view rs)) (take_all c.loop-row.row-index _ c.loop-row-test.false)
    ∙ ap (λ rs. view (map row_view rs)) c.deref-row-items.ensures.value
    ∙ ap view (c.in_ok-rows.ensures ∙ ap all_messages held.messages) ∙ compiled_views use_fuzzy catalogues

pub returns-clause-valid : goal.returns-clause-valid
returns-clause-valid c = λ _ catalogues held. joined_valid catalogues held.valid
