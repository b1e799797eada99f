use Rattle.po_catalog.proofs.Prelude.{DifferUpTo, InputEntry, MatchOption, RepeatsAt, TextEntry, ap, arith, get_or, get_or-map, input_entries, input_entry, is_live, is_looked_at, length, length-map, live_differ, number_in, subst, sym, ℕ, ◌<◌, ◌∙◌, ◌≡◌}
use Rattle.po_catalog.specs.declared.joining.InputEntry.{InputEntry as BorrowedEntry}
use Rattle.po_entry.proofs.MessageNumbers.{are_numbered, as_many, first_twice, none_twice}
use Rattle.po_catalog.proofs.duplicate.first_pair.Goals as goal

pub first_repeat-requires-clause-lengths : goal.first_repeat-requires-clause-lengths
first_repeat-requires-clause-lengths c =
    let xs = input_entries c.args.entries.now in
    let store = c.in_ok-store.store in
    let numbers = c.deref.result.now in
    let places = c.deref-2.result.now in
    let are = are_numbered store numbers (c.deref.ensures.value ∙ c.in_ok-numbers.ensures.numbers) in
    let placed = c.deref-2.ensures.value ∙ c.in_ok-places.ensures.places in
    let entry : InputEntry → TextEntry = λ e. e.entry in
    ap length are.numbers_are ∙ length-map store (number_in store)
    ∙ ap length c.in_ok-store.ensures ∙ length-map xs entry
    ∙ sym (as_many entry xs store c.in_ok-store.ensures store is_live numbers places are placed)

pub returns-in_default : goal.returns-in_default
returns-in_default c =
    let xs = input_entries c.args.entries.now in
    let store = c.in_ok-store.store in
    let numbers = c.deref.result.now in
    let places = c.deref-2.result.now in
    let are = are_numbered store numbers (c.deref.ensures.value ∙ c.in_ok-numbers.ensures.numbers) in
    let placed = c.deref-2.ensures.value ∙ c.in_ok-places.ensures.places in
    let entry : InputEntry → TextEntry = λ e. e.entry in
    let found = subst (λ o. MatchOption o (DifferUpTo is_looked_at numbers places (length places))
    (λ at. RepeatsAt is_looked_at numbers places at.0 at.1)) c.in_default.is c.in_ok-first.ensures.found in
    live_differ xs (none_twice entry xs store c.in_ok-store.ensures store is_live numbers places are placed found)

pub returns : goal.returns
returns c =
    let xs = input_entries c.args.entries.now in
    let store = c.in_ok-store.store in
    let numbers = c.deref.result.now in
    let places = c.deref-2.result.now in
    let are = are_numbered store numbers (c.deref.ensures.value ∙ c.in_ok-numbers.ensures.numbers) in
    let placed = c.deref-2.ensures.value ∙ c.in_ok-places.ensures.places in
    let entry : InputEntry → TextEntry = λ e. e.entry in
    let found = subst (λ o. MatchOption o (DifferUpTo is_looked_at numbers places (length places))
    (λ at. RepeatsAt is_looked_at numbers places at.0 at.1)) c.in-Some.is c.in_ok-first.ensures.found in
    let i = c.in-Some.first in
    let j = c.in-Some.later in
    let inside : j < length xs =
    omega (arith, found.within, as_many entry xs store c.in_ok-store.ensures store is_live numbers places are placed) in
    let within : i < length xs = omega (arith, found.earlier, inside) in
    let at = λ (k : ℕ) (x : BorrowedEntry) (is : x ≡ get_or c.args.entries.now k x) (below : k < length xs).
    ap input_entry is ∙ sym (get_or-map input_entry c.args.entries.now k x (input_entry x)
    (omega (arith, below, length-map c.args.entries.now input_entry))) in
    first_twice entry xs store c.in_ok-store.ensures store is_live numbers places are placed i j
    (input_entry c.index-entries-first.result) (input_entry c.index-entries-later.result) inside
    (at i c.index-entries-first.result c.index-entries-first.is within)
    (at j c.index-entries-later.result c.index-entries-later.is inside) found
