use Rattle.msgcat.proofs.Prelude.{Bool, IsMergeFault, [], ap, ap₂, arith, err_from_is_err_and, false, is_wanted, named_entries, no_entry, subst, sym, ◌||◌, ◌∙◌, ◌∷◌}
use Rattle.msgcat.proofs.MergedMessages.{kept_can, kept_message, left_out, only_kept}
use Rattle.msgcat.proofs.MessageLinks.{all_left, first_inside, first_links, indexes, only_one, stored}
use Rattle.msgcat.proofs.merge_inputs.MergeInputs.merge_message.Goals.{then-is_header-via-else-is_header+then-is_wanted, then-is_header-via-then-is_header}
use Rattle.msgcat.proofs.merge_inputs.MergeInputs.merge_message.Goals as goal

pub index-first-requires : goal.index-first-requires
index-first-requires c =
    omega (
      arith,
      first_inside c.requires.0 c.args.self.now c.requires.1 c.args.number c.requires.2,
      c.args.self.now.links.firsts.ok.0,
    )

pub index-requires : goal.index-requires
index-requires c =
    omega (
      arith,
      first_links c.requires.0 c.args.self.now c.requires.1 c.args.number c.requires.2 c.index-first.result.now
          c.index-first.ensures,
      c.args.self.now.links.next.ok.0,
    )

pub get-entry-requires : goal.get-entry-requires
get-entry-requires c =
    let held = c.args.self.now in
    let at = c.index-first.result.now in
    stored c.requires.0 held c.requires.1 at (indexes c.requires.0 held c.requires.1 c.args.number c.requires.2)
    (all_left c.requires.0 held c.requires.1 c.args.number c.requires.2 at c.index-first.ensures)
    (first_links c.requires.0 held c.requires.1 c.args.number c.requires.2 at c.index-first.ensures)

pub returns-then-is_header-clause-merged : goal.returns-then-is_header-clause-merged
returns-then-is_header-clause-merged c = λ read h below.
    let only = only_one read c.args.self.now h c.args.number below c.index-first.result.now c.index.result.now
    c.get-entry.result c.index-first.ensures c.index.ensures
    (omega (arith, c.if-index-len.true, c.len.ensures, c.args.self.now.links.next.ok.0))
    (c.get-entry.ensures.entry no_entry.entry) in
    only_kept c.args.options.now _ only.0 c.get-entry.result only.1 (elim c.then-is_header.branch [
      | then-is_header-via-then-is_header w ↦
          ap (λ (b : Bool). (b || false) || is_wanted c.args.options.now 1)
          (sym c.is_header.ensures ∙ w.if-is_header.true)
      | then-is_header-via-else-is_header+then-is_wanted w ↦
          ap₂ (λ (a b : Bool). (a || false) || b) (sym c.is_header.ensures ∙ w.if-is_header.false)
          (sym w.is_wanted.ensures ∙ w.if-is_wanted.true)
    ])

pub returns-then-index-len-clause-merged : goal.returns-then-index-len-clause-merged
returns-then-index-len-clause-merged c = λ read h below.
    let only = only_one read c.args.self.now h c.args.number below c.index-first.result.now c.index.result.now
    c.get-entry.result c.index-first.ensures c.index.ensures
    (omega (arith, c.if-index-len.true, c.len.ensures, c.args.self.now.links.next.ok.0))
    (c.get-entry.ensures.entry no_entry.entry) in
    left_out c.args.options.now _ only.0 c.get-entry.result only.1
    (ap₂ (λ (a b : Bool). (a || false) || b) (sym c.is_header.ensures ∙ c.if-is_header.false)
    (sym c.is_wanted.ensures ∙ c.if-is_wanted.false))

pub merged_entry-requires-clause-can : goal.merged_entry-requires-clause-can
merged_entry-requires-clause-can c =
    let read = c.requires.0 in
    let h = c.requires.1 in
    let group = named_entries c.in_ok-group.group.items in
    kept_can read c.args.number group c.requires.2 (c.in_ok-group.ensures read h c.requires.2)
    (named_entries c.in-Some.definitions.items) c.in-Some.ensures.some.0 h.can

pub returns-in_err-merged_entry-in-Some-clause-fault :
    goal.returns-in_err-merged_entry-in-Some-clause-fault
returns-in_err-merged_entry-in-Some-clause-fault c =
    let p = err_from_is_err_and c.from_residual-in_err-merged_entry-in-Some.result
    c.from_residual-in_err-merged_entry-in-Some.ensures.1 in
    rw (p.1, p.2) (λ read h below.
    let group = named_entries c.in_ok-group.group.items in
    subst (λ l. IsMergeFault l c.in_err-merged_entry-in-Some.field-0.0)
    (kept_message read c.args.number group below (c.in_ok-group.ensures read h below)
    (named_entries c.in-Some.definitions.items) c.in-Some.ensures.some.0
    c.args.options.now c.in-Some.ensures.some.1)
    c.in_err-merged_entry-in-Some.ensures.fault)

pub returns-in_ok-merged_entry-in-Some-clause-merged :
    goal.returns-in_ok-merged_entry-in-Some-clause-merged
returns-in_ok-merged_entry-in-Some-clause-merged c = λ read h below.
    let group = named_entries c.in_ok-group.group.items in
    ap (λ e. e ∷ []) c.in_ok-merged_entry-in-Some.ensures.merged
    ∙ kept_message read c.args.number group below (c.in_ok-group.ensures read h below)
    (named_entries c.in-Some.definitions.items) c.in-Some.ensures.some.0
    c.args.options.now c.in-Some.ensures.some.1
