use Rattle.msgattrib.proofs.Prelude.{IsCatalogueEntry, TextEntry, [], ap, changed, set_fuzzy, set_obsolete, subst, sym, ◌++◌, ◌∙◌, ◌∷◌, ◌≡◌}
use Rattle.msgattrib.proofs.SelectedEntries.{changed_in_copy, changed_in_place, same_length}
use Rattle.msgattrib.proofs.OptionLaws.{changed_can_stand}
use Rattle.msgattrib.proofs.selection.Selection.change_at.Goals as goal

pub push-requires : goal.push-requires
push-requires c =
    subst IsCatalogueEntry (sym c.in_ok-changed.ensures)
    (changed_can_stand c.args.self.now c.get-entry.result c.get-entry.ensures.valid)

pub returns-then-changes_texts-clause-changed : goal.returns-then-changes_texts-clause-changed
returns-then-changes_texts-clause-changed c =
    changed_in_copy c.args.self.now c.args.index c.args.store.now c.push.new.self c.len-last.result c.get-entry.result
    c.len-last.ensures
    (λ other. c.in_ok-push.ensures.ok
    ∙ ap (λ (entry : TextEntry). c.args.store.now ++ entry ∷ [])
    (c.in_ok-changed.ensures ∙ ap (changed c.args.self.now) (c.get-entry.ensures.entry other)))

pub set_obsolete-requires : goal.set_obsolete-requires
set_obsolete-requires c = rw (c.set_fuzzy.ensures, same_length) c.requires

pub returns-clause-changed : goal.returns-clause-changed
returns-clause-changed c =
    let s = c.args.self.now in
    let fuzzy = c.fuzzy_after-fuzzy.result in
    let obsolete = c.obsolete_after-obsolete.result in
    let entry = c.get-entry.result in
    let marks : changed s entry ≡ set_obsolete obsolete (set_fuzzy fuzzy entry) =
    rw (c.fuzzy_after-fuzzy.ensures, c.obsolete_after-obsolete.ensures)
    (c.changes_texts.ensures c.if-changes_texts.false) in
    rw (c.set_obsolete.ensures, c.set_fuzzy.ensures)
    (changed_in_place s c.args.index c.args.store.now fuzzy obsolete c.requires
    (λ other. subst (λ entry. changed s entry ≡ set_obsolete obsolete (set_fuzzy fuzzy entry))
    (c.get-entry.ensures.entry other) marks))
