use Rattle.po_tools.proofs.Prelude.{All, All-nil, All-push, IfSome, IsCatalogueEntry, List, TextEntry, [], ap, ap₂, arith, err_from_is_err_and, inputs_view, length, merged_messages, messages, option_to_list, refl, subst, sym, take, ◌++◌, ◌<◌, ◌∙◌, ◌∷◌}
use Rattle.std.proofs.Common.{append-nil}
use Rattle.msgcat.proofs.MergedGroups.{fault_of_one, messages_more}
use Rattle.po_tools.proofs.catalogues.merge.Goals.{in-Some+in_ok-copy+in_ok-push, in_default}
use Rattle.po_tools.proofs.catalogues.merge.Goals as goal

pub loop-number-init : goal.loop-number-init
loop-number-init c = rw c.new-entries.ensures.items
    (record { merged = refl; valid = All-nil IsCatalogueEntry })

pub merge_message-requires : goal.merge_message-requires
merge_message-requires c =
    let read = inputs_view c.args.inputs.now in
    let held = c.in_ok-linked.ensures in
    (read, held, omega (arith, c.loop-number-test.true, c.message_count-number-end.ensures read held))

pub loop-number-preserved : goal.loop-number-preserved
loop-number-preserved c =
    let o = c.args.options.now in
    let read = inputs_view c.args.inputs.now in
    let all = messages read in
    let i = c.loop-number.number in
    let held = c.in_ok-linked.ensures in
    let inside : i < length all =
    omega (arith, c.loop-number-test.true, c.message_count-number-end.ensures read held) in
    let step = c.in_ok-entry.ensures.merged read held inside in
    let so_far = c.loop-number.invariant in
    elim c.match-branch-3.branch [
      | in-Some+in_ok-copy+in_ok-push w ↦
          let same = w.in_ok-copy.ensures in
          let items = ap (λ v. v.items) w.entries-is ∙ w.in_ok-push.ensures.items in
          let valid = subst (λ found. IfSome found IsCatalogueEntry) w.in-Some.is c.in_ok-entry.ensures.valid in
          record {
            merged = items
                ∙ ap₂ (λ (l : List TextEntry) (m : List TextEntry). l ++ m) so_far.merged
                (ap (λ (e : TextEntry). e ∷ []) same ∙ ap option_to_list (sym w.in-Some.is) ∙ step)
                ∙ messages_more o all i inside;
            valid = subst (All IsCatalogueEntry) (sym items)
                (All-push IsCatalogueEntry c.loop-number.entries.items w.in_ok-copy.copy so_far.valid
                (subst IsCatalogueEntry (sym same) valid));
          }
      | in_default w ↦
          let items = ap (λ v. v.items) w.entries-is in
          record {
            merged = items ∙ so_far.merged ∙ sym (append-nil (merged_messages o (take i all)))
                ∙ ap (λ (l : List TextEntry). merged_messages o (take i all) ++ l)
                (ap option_to_list (sym w.in_default.is) ∙ step)
                ∙ messages_more o all i inside;
            valid = subst (All IsCatalogueEntry) (sym items) so_far.valid;
          }
    ]

pub returns-in_err-entry-clause-fault : goal.returns-in_err-entry-clause-fault
returns-in_err-entry-clause-fault c =
    let read = inputs_view c.args.inputs.now in
    let held = c.in_ok-linked.ensures in
    let inside : c.loop-number.number < length (messages read) =
    omega (arith, c.loop-number-test.true, c.message_count-number-end.ensures read held) in
    let p = err_from_is_err_and c.from_residual-in_err-entry.result c.from_residual-in_err-entry.ensures.1 in
    rw (p.1, p.2) (fault_of_one c.args.options.now (messages read) c.loop-number.number c.in_err-entry.field-0.0 inside
    (c.in_err-entry.ensures.fault read held inside))
