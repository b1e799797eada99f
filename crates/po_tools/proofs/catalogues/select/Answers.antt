use Rattle.po_tools.proofs.Prelude.{All-filter, IsCatalogueEntry, arith, filter, is_kept, rules, ◌≡◌}
use Rattle.std.proofs.lemmas.Fn.{filter_same}
use Rattle.std.proofs.lemmas.Grind.{common_steps}
use Rattle.po_tools.proofs.catalogues.select.Goals as goal

pub change_all-requires : goal.change_all-requires
change_all-requires c =
    let all = c.into_entries-entries.result.items in
    let kept : c.retain.new.self.items ≡ filter (is_kept c.args.selection.now) all =
    filter_same _ _ _ (λ x b f' k. search rules) _ _ c.retain.ensures.filtered in
    rw (c.deref_mut.ensures.value, kept)
    (All-filter (is_kept c.args.selection.now) IsCatalogueEntry all c.into_entries-entries.ensures.valid)

pub returns-clause-list : goal.returns-clause-list
returns-clause-list c =
    let kept : c.retain.new.self.items
    ≡ filter (is_kept c.args.selection.now) c.into_entries-entries.result.items =
    filter_same _ _ _ (λ x b f' k. search rules) _ _ c.retain.ensures.filtered in
    grind (arith, common_steps, kept)
