use Rattle.po_entry.proofs.Prelude.{AllDiffer, HasNoDuplicate, MatchOption, RepeatsOnLines, in_input, inr, is_live, map, subst, sym, ◌∙◌}
use Rattle.std.specs.Prelude.{filter}
use Rattle.po_entry.proofs.Duplicates.{distinct_has_no_first, entries_of_input}
use Rattle.po_entry.proofs.MessageNumbers.{are_numbered, repeats_of}
use Rattle.po_entry.proofs.duplicate.check_duplicates.Goals as goal

pub returns-in-Some-clause-exact : goal.returns-in-Some-clause-exact
returns-in-Some-clause-exact c =
    let store = c.args.store.now in
    let are = are_numbered store c.deref.result.now (c.deref.ensures.value ∙ c.in_ok-numbers.ensures.numbers) in
    let placed = c.deref-2.ensures.value ∙ c.in_ok-places.ensures.places in
    let found = subst (λ o. MatchOption o (AllDiffer (filter is_live store)) (RepeatsOnLines (filter is_live store)))
    c.in-Some.is (c.in_ok-first.ensures.found store store is_live are placed) in
    inr (repeats_of store (c.in-Some.first, c.in-Some.line) c.duplicate_at.result found c.duplicate_at.ensures)

pub returns-in-Some-clause-only : goal.returns-in-Some-clause-only
returns-in-Some-clause-only c =
    let store = c.args.store.now in
    let are = are_numbered store c.deref.result.now (c.deref.ensures.value ∙ c.in_ok-numbers.ensures.numbers) in
    let placed = c.deref-2.ensures.value ∙ c.in_ok-places.ensures.places in
    let found = subst (λ o. MatchOption o (AllDiffer (filter is_live store)) (RepeatsOnLines (filter is_live store)))
    c.in-Some.is (c.in_ok-first.ensures.found store store is_live are placed) in
    let repeats = repeats_of store (c.in-Some.first, c.in-Some.line) c.duplicate_at.result found
    c.duplicate_at.ensures in
    λ none. absurd (distinct_has_no_first (map (in_input 0) store) repeats.0 repeats.1
    (subst HasNoDuplicate (sym (entries_of_input 0 store)) none) repeats.2)

pub returns-clause-exact : goal.returns-clause-exact
returns-clause-exact c =
    let store = c.args.store.now in
    let are = are_numbered store c.deref.result.now (c.deref.ensures.value ∙ c.in_ok-numbers.ensures.numbers) in
    let placed = c.deref-2.ensures.value ∙ c.in_ok-places.ensures.places in
    subst (λ o. MatchOption o (AllDiffer (filter is_live store)) (RepeatsOnLines (filter is_live store)))
    c.in-None.is (c.in_ok-first.ensures.found store store is_live are placed)
