use Rattle.po_catalog.proofs.Prelude.{HasNoDuplicate, IsCatalogueEntry, ap, entries_of, input_entries, only_memory, subst, sym, ◌∙◌}
use Rattle.std.proofs.Common.{All}
use Rattle.po_catalog.proofs.duplicate.joined_duplicates.Goals as goal

pub first_duplicate-requires : goal.first_duplicate-requires
first_duplicate-requires c =
    let same = ap input_entries c.deref.ensures.value ∙ c.in_ok-entries.ensures.list in
    subst (λ l. All IsCatalogueEntry (entries_of l)) (sym same) c.in_ok-entries.ensures.valid

pub returns-clause-only : goal.returns-clause-only
returns-clause-only c =
    let same = ap input_entries c.deref.ensures.value ∙ c.in_ok-entries.ensures.list in
    λ none. only_memory (input_entries c.deref.result.now) c.first_duplicate.result c.first_duplicate.ensures.exact
    (subst (λ l. HasNoDuplicate (entries_of l)) (sym same) none)
