use Rattle.po_compile.proofs.Prelude.{ap, append_assoc, at_drop_more, drop, filter, has_no_key, in_input_message, is_joined, joined_messages, list_any, map, nat_lt, row_view, sym, ◌++◌, ◌+◌, ◌||◌, ◌∙◌, ◌∷◌, ◌≡◌}
use Rattle.po_compile.proofs.CompiledMessages.{any_counted}
use Rattle.po_compile.proofs.rows.joined_rows.Goals.{else-headed, then-headed}
use Rattle.po_compile.proofs.rows.joined_rows.Goals as goal

pub loop-input-preserved : goal.loop-input-preserved
loop-input-preserved c =
    let all = c.args.inputs.now in
    let i = c.loop-input.input in
    let headed = c.loop-input.headed in
    let messages = c.index-inputs-input.result in
    let old = map row_view c.loop-input.rows.items in
    let new = map row_view c.add_rows.new.rows.items in
    let here = list_any has_no_key messages in
    let rest = joined_messages (i + 1) (headed || here) (drop (i + 1) all) in
    let then : c.if-headed.headed ≡ (headed || here) = elim c.if-headed.branch [
      | then-headed w ↦ w.headed-is ∙ w.if-headed.true ∙ sym (ap (λ b. b || here) w.if-headed.true)
      | else-headed w ↦ w.headed-is ∙ ap (nat_lt 0) w.header_count.ensures ∙ any_counted has_no_key messages
          ∙ sym (ap (λ b. b || here) w.if-headed.false)
    ] in
    ap (λ h. new ++ joined_messages (i + 1) h (drop (i + 1) all)) then ∙ ap (λ l. l ++ rest) c.in_ok-add_rows.ensures
    ∙ append_assoc old (map (in_input_message i) (filter (is_joined headed) messages)) rest
    ∙ ap (λ ms. old ++ joined_messages i headed (ms ∷ drop (i + 1) all)) c.index-inputs-input.is
    ∙ sym (at_drop_more (λ l. old ++ joined_messages i headed l) all i messages c.loop-input-test.true)
    ∙ c.loop-input.invariant
