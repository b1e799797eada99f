use Rattle.msgattrib.proofs.Prelude.{HasNoDuplicate, IsCatalogueEntry, IsDuplicateFaultOf, List, TextEntry, [], ap, append-nil, arith, err_from_is_err_and, length, selected, subst, sym, take_all, ◌++◌, ◌<◌, ◌∙◌, ◌∷◌, ◌≡◌, ◌≤◌}
use Rattle.msgattrib.proofs.SelectedEntries.{one_kept, one_left_out, read_whole, repeating, repeating_selected, selected_goes_on, still_distinct}
use Rattle.msgattrib.proofs.OptionLaws.{changed_can_stand}
use Rattle.msgattrib.proofs.selected_text.check_duplicates.Goals.{else-keeps, then-keeps+in_ok-changed+in_ok-push}
use Rattle.msgattrib.proofs.selected_text.check_duplicates.Goals as goal

pub returns-in_err-check_duplicates-clause-fault : goal.returns-in_err-check_duplicates-clause-fault
returns-in_err-check_duplicates-clause-fault c =
    let p = err_from_is_err_and c.from_residual-in_err-check_duplicates.result
    c.from_residual-in_err-check_duplicates.ensures.1 in
    rw (p.1, p.2) (repeating c.args.selection.now c.args.text.now c.read_into.new.store
    c.in_err-check_duplicates.field-0.0
    (read_whole c.args.text.now c.new-store.result c.read_into.new.store c.new-store.ensures
    c.in_ok-read_into.ensures.found) c.in_err-check_duplicates.ensures.exact)

pub push-requires : goal.push-requires
push-requires c =
    subst IsCatalogueEntry (sym c.in_ok-changed.ensures)
    (changed_can_stand c.args.selection.now c.get-entry.result c.get-entry.ensures.valid)

pub loop-index-preserved : goal.loop-index-preserved
loop-index-preserved c =
    let s = c.args.selection.now in
    let store = c.read_into.new.store in
    let entry = c.get-entry.result in
    let inside : c.loop-index.index < length store = omega (arith, c.loop-index-test.true, c.len-index-end.ensures) in
    let step : c.if-keeps.entries ≡ c.loop-index.entries ++ selected s (entry ∷ []) = elim c.if-keeps.branch [
      | then-keeps+in_ok-changed+in_ok-push w ↦
          w.entries-is ∙ w.in_ok-push.ensures.ok
          ∙ ap (λ (l : List TextEntry). c.loop-index.entries ++ l)
          (ap (λ (e : TextEntry). e ∷ []) w.in_ok-changed.ensures
          ∙ sym (one_kept s entry (sym c.keeps.ensures ∙ w.if-keeps.true)))
      | else-keeps w ↦
          w.entries-is ∙ sym (append-nil c.loop-index.entries)
          ∙ ap (λ (l : List TextEntry). c.loop-index.entries ++ l)
          (sym (one_left_out s entry (sym c.keeps.ensures ∙ w.if-keeps.false)))
    ] in
    step ∙ ap (λ list. list ++ selected s (entry ∷ [])) c.loop-index.invariant
    ∙ selected_goes_on s store c.loop-index.index entry inside (c.get-entry.ensures.entry entry)

pub returns-in-Ok-clause-distinct : goal.returns-in-Ok-clause-distinct
returns-in-Ok-clause-distinct c =
    let s = c.args.selection.now in
    let store = c.read_into.new.store in
    let past : length store ≤ c.loop-index.index = omega (arith, c.loop-index-test.false, c.len-index-end.ensures) in
    still_distinct s c.args.text.now store
    (read_whole c.args.text.now c.new-store.result store c.new-store.ensures c.in_ok-read_into.ensures.found)
    (record {
      read = c.in_ok-check_duplicates.ensures.exact;
      kept = subst HasNoDuplicate
          (c.loop-index.invariant ∙ ap (selected s) (take_all c.loop-index.index store past)) c.in-Ok.ensures.exact;
    })

pub returns-clause-fault : goal.returns-clause-fault
returns-clause-fault c =
    let s = c.args.selection.now in
    let store = c.read_into.new.store in
    let past : length store ≤ c.loop-index.index = omega (arith, c.loop-index-test.false, c.len-index-end.ensures) in
    repeating_selected s c.args.text.now store c.in-Err.error
    (read_whole c.args.text.now c.new-store.result store c.new-store.ensures c.in_ok-read_into.ensures.found)
    c.in_ok-check_duplicates.ensures.exact
    (subst (λ list. IsDuplicateFaultOf list c.in-Err.error)
    (c.loop-index.invariant ∙ ap (selected s) (take_all c.loop-index.index store past)) c.in-Err.ensures.exact)
