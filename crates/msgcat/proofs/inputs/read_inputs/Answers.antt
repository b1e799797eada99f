use Rattle.msgcat.proofs.Prelude.{AllZip, AreNumberedInputs, AreReadUpTo, EntryPlace, FileFault, IsFaultOfFirst, IsFileFault, IsFirstRepeating, IsReadInput, List, MatchOption, NamedFile, ReadInput, ReadInputs, [], all_entries, ap, are_placed, entry_messages, err_from_is_err_and, group_numbers, inl, inr, is_live, named_files, out_of_memory, subst, sym, unnamed, ℕ, ◌∙◌, ◌≡◌, ◌⊎◌}
use Rattle.po_entry.specs.Prelude.{same_message}
use Rattle.msgcat.proofs.InputEntries.{all_read, no_part, repeating_fault, text_fault}
use Rattle.msgcat.proofs.inputs.read_inputs.Goals as goal

either : (files : List NamedFile) (read : ReadInputs) (up_to : AreReadUpTo files read) (fault : FileFault)
    → (fault.error ≡ out_of_memory) ⊎ IsFirstRepeating up_to.inputs fault
    → (fault.error ≡ out_of_memory) ⊎ IsFileFault files fault.name.now fault.error
either files read up_to fault (inl memory) = inl memory
either files read up_to fault (inr found) = inr (repeating_fault files read up_to fault found)

numbered : (files : List NamedFile) (read : ReadInputs) (up_to : AreReadUpTo files read) (inputs : List ReadInput)
    (places : List EntryPlace) (numbers : List ℕ) → inputs ≡ read.inputs.items → places ≡ are_placed is_live read.store
    → numbers ≡ group_numbers same_message (entry_messages read.store)
    → AreNumberedInputs up_to.inputs up_to.part inputs places numbers
numbered files read up_to inputs places numbers inputs_are placed are = record {
  known = subst (AllZip IsReadInput up_to.inputs) (sym inputs_are) up_to.known.known;
  places_are = placed ∙ ap (are_placed is_live) up_to.holds;
  numbers_are = are ∙ ap (λ l. group_numbers same_message (entry_messages l)) up_to.holds;
}

pub returns-in_err-check_inputs-clause-fault : goal.returns-in_err-check_inputs-clause-fault
returns-in_err-check_inputs-clause-fault c =
    let p = err_from_is_err_and c.from_residual-in_err-check_inputs.result
    c.from_residual-in_err-check_inputs.ensures.1 in
    let up_to = c.in_ok-read.ensures.read in
    let are = numbered (named_files c.args.inputs.now) c.in_ok-read.read up_to c.deref.result.now c.deref-2.result.now
    c.deref-3.result.now c.deref.ensures.value (c.deref-2.ensures.value ∙ c.in_ok-places.ensures.places)
    (c.deref-3.ensures.value ∙ c.in_ok-numbers.ensures.numbers) in
    rw (p.1, p.2) (either (named_files c.args.inputs.now) c.in_ok-read.read up_to c.in_err-check_inputs.field-0.0
    (c.in_err-check_inputs.ensures.fault up_to.inputs up_to.part are))

pub returns-in-Some-clause-fault : goal.returns-in-Some-clause-fault
returns-in-Some-clause-fault c =
    let up_to = c.in_ok-read.ensures.read in
    let are = numbered (named_files c.args.inputs.now) c.in_ok-read.read up_to c.deref.result.now c.deref-2.result.now
    c.deref-3.result.now c.deref.ensures.value (c.deref-2.ensures.value ∙ c.in_ok-places.ensures.places)
    (c.deref-3.ensures.value ∙ c.in_ok-numbers.ensures.numbers) in
    let distinct = c.in_ok-check_inputs.ensures.distinct up_to.inputs up_to.part are in
    let first = subst (λ o. MatchOption o ((up_to.rest ≡ []) × (up_to.part ≡ [])) (IsFaultOfFirst up_to.rest))
    c.in-Some.is up_to.end in
    inr (text_fault (named_files c.args.inputs.now) c.in_ok-read.read up_to c.in-Some.fault distinct first)

pub returns-clause-read : goal.returns-clause-read
returns-clause-read c =
    let up_to = c.in_ok-read.ensures.read in
    let are = numbered (named_files c.args.inputs.now) c.in_ok-read.read up_to c.deref.result.now c.deref-2.result.now
    c.deref-3.result.now c.deref.ensures.value (c.deref-2.ensures.value ∙ c.in_ok-places.ensures.places)
    (c.deref-3.ensures.value ∙ c.in_ok-numbers.ensures.numbers) in
    let distinct = c.in_ok-check_inputs.ensures.distinct up_to.inputs up_to.part are in
    let none = subst (λ o. MatchOption o ((up_to.rest ≡ []) × (up_to.part ≡ [])) (IsFaultOfFirst up_to.rest))
    c.in_default.is up_to.end in
    let store : c.in_ok-read.read.store ≡ unnamed (all_entries up_to.inputs) =
    up_to.holds ∙ no_part up_to.inputs up_to.part none.1 in (
      up_to.inputs,
      all_read (named_files c.args.inputs.now) c.in_ok-read.read up_to distinct none.0,
      c.in_ok-of.ensures up_to.inputs up_to.known store,
    )
