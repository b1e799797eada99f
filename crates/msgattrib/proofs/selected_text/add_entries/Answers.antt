use Rattle.msgattrib.proofs.Prelude.{AddsParts, List, OthersStay, TextEntry, [], ap, append-nil, arith, changed, get_or, hashes_of, length, refl, selected, subst, sym, ℕ, ◌++◌, ◌<◌, ◌∙◌, ◌∷◌, ◌≡◌}
use Rattle.po_writer.specs.Prelude.{AreParts}
use Rattle.msgattrib.proofs.SelectedEntries.{hashes_go_on, one_kept, one_left_out, parts_go_on}
use Rattle.msgattrib.proofs.selected_text.add_entries.Goals.{else-keeps, then-keeps+in_ok-changed+in_ok-add}
use Rattle.msgattrib.proofs.selected_text.add_entries.Goals as goal

pub loop-index-preserved : goal.loop-index-preserved
loop-index-preserved c =
    let s = c.args.selection.now in
    let entries = c.args.store.now in
    let index = c.loop-index.index in
    let entry = c.get-entry.result in
    let done = c.loop-index.invariant in
    let inside : index < length entries = omega arith in
    let is : entry ≡ get_or entries index entry =
    c.get-entry.ensures.entry entry ∙ done.rest index entry (omega arith) inside in
    let stay : OthersStay index c.loop-index.store c.if-keeps.store = elim c.if-keeps.branch [
      | then-keeps+in_ok-changed+in_ok-add w ↦
          subst (OthersStay index c.loop-index.store) (sym w.store-is) w.in_ok-changed.ensures.changed.rest
      | else-keeps w ↦
          subst (OthersStay index c.loop-index.store) (sym w.store-is)
          (record { others = λ i other below apart. refl; longer = omega arith })
    ] in
    let added : AddsParts (selected s (entry ∷ [])) c.loop-index.parts c.if-keeps.parts = elim c.if-keeps.branch [
      | then-keeps+in_ok-changed+in_ok-add w ↦ λ before parts.
          let changed_is : w.get.result ≡ changed s entry =
          w.get.ensures.entry entry ∙ w.in_ok-changed.ensures.changed.entry entry
          ∙ ap (changed s) (sym (c.get-entry.ensures.entry entry)) in
          subst (AreParts (before ++ selected s (entry ∷ []))) (sym w.parts-is)
          (subst (λ l. AreParts (before ++ l) w.add.new.self)
          (ap (λ (e : TextEntry). e ∷ []) changed_is ∙ sym (one_kept s entry (sym c.keeps.ensures ∙ w.if-keeps.true)))
          (w.in_ok-add.ensures.parts before parts))
      | else-keeps w ↦ λ before parts.
          subst (AreParts (before ++ selected s (entry ∷ []))) (sym w.parts-is)
          (subst (λ l. AreParts l c.loop-index.parts)
          (sym (append-nil before) ∙ ap (λ (l : List TextEntry). before ++ l)
          (sym (one_left_out s entry (sym c.keeps.ensures ∙ w.if-keeps.false)))) parts)
    ] in
    record {
      rest = λ i other after below.
          stay.others i other (omega arith) (λ same. omega arith) ∙ done.rest i other (omega arith) below;
      longer = omega arith;
      parts = parts_go_on s entries index entry c.args.parts.now c.loop-index.parts c.if-keeps.parts inside is
          done.parts added;
      hashes = c.in_ok-add_hash.ensures ∙ ap (λ (list : List ℕ). list ++ hashes_of s (entry ∷ [])) done.hashes
          ∙ hashes_go_on s entries index entry c.args.hashes.now.items inside is;
    }
