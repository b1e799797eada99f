use Rattle.msgcat.proofs.Prelude.{AreReadInputs, [], all_entries, ap, append-nil, arith, entries_at, get_or, groups, length, named_entries, no_entry, subst, sym, ◌++◌, ◌<◌, ◌∙◌, ◌≤◌}
use Rattle.msgcat.specs.declared.definition.NamedEntry.{NamedEntry as BorrowedEntry}
use Rattle.msgcat.proofs.MessageLinks.{all_left, first_inside, group_is, here, indexes, later, left_is, none_left, rest, rest_left, stored}
use Rattle.msgcat.proofs.InputEntries.{entry_is, entry_taken}
use Rattle.msgcat.proofs.merge_inputs.MergeInputs.group.Goals as goal

pub index-index-requires : goal.index-index-requires
index-index-requires c =
    omega (
      arith,
      first_inside c.requires.0 c.args.self.now c.requires.1 c.args.number c.requires.2,
      c.args.self.now.links.firsts.ok.0,
    )

pub loop-index-init : goal.loop-index-init
loop-index-init c = λ read h below.
    let left = indexes read c.args.self.now h c.args.number below in (
      left,
      all_left read c.args.self.now h c.args.number below c.index-index.result.now c.index-index.ensures,
      ap (λ l. named_entries l ++ entries_at (all_entries read) left) c.new-group.ensures.items
          ∙ group_is read c.args.self.now h c.args.number below,
    )

pub get-requires : goal.get-requires
get-requires c =
    let held = c.args.self.now in
    let so_far = c.loop-index.invariant c.requires.0 c.requires.1 c.requires.2 in
    let inside : c.loop-index.index < length held.links.next.items =
    omega (arith, c.loop-index-test.true, c.len.ensures, held.links.next.ok.0) in
    stored c.requires.0 held c.requires.1 c.loop-index.index so_far.0 so_far.1 inside

pub loop-index-smaller : goal.loop-index-smaller
loop-index-smaller c =
    let held = c.args.self.now in
    let at = c.loop-index.index in
    let so_far = c.loop-index.invariant c.requires.0 c.requires.1 c.requires.2 in
    let inside : at < length held.links.next.items =
    omega (arith, c.loop-index-test.true, c.len.ensures, held.links.next.ok.0) in
    omega (
      arith,
      inside,
      later c.requires.0 held c.requires.1 at so_far.0 so_far.1 inside c.index-index-in-loop-index.result.now
          c.index-index-in-loop-index.ensures,
    )

pub loop-index-preserved : goal.loop-index-preserved
loop-index-preserved c = λ read h below.
    let held = c.args.self.now in
    let at = c.loop-index.index in
    let so_far = c.loop-index.invariant read h below in
    let inside : at < length held.links.next.items =
    omega (arith, c.loop-index-test.true, c.len.ensures, held.links.next.ok.0) in
    let after = rest read held h at so_far.0 so_far.1 inside in
    let definition : BorrowedEntry = record { name = c.name_at.result; entry = c.get.result } in
    let known = subst (AreReadInputs read) (sym c.deref.ensures.value) h.known in (
      after,
      rest_left read held h at so_far.0 so_far.1 inside c.index-index-in-loop-index.result.now
          c.index-index-in-loop-index.ensures,
      entry_taken (all_entries read) (get_or (groups (all_entries read)) c.args.number []) c.loop-index.group.items
          c.push.new.self.items definition so_far.0 after at so_far.2
          (left_is read held h at so_far.0 so_far.1 inside) c.in_ok-push.ensures.items
          (entry_is read held.store at definition h.store (stored read held h at so_far.0 so_far.1 inside)
          (c.name_at.ensures read known (here read held h at so_far.0 so_far.1 inside))
          (c.get.ensures.entry no_entry.entry)),
    )

pub returns : goal.returns
returns c = λ read h below.
    let held = c.args.self.now in
    let past : length held.links.next.items ≤ c.loop-index.index =
    omega (arith, c.loop-index-test.false, c.len.ensures, held.links.next.ok.0) in
    let so_far = c.loop-index.invariant read h below in
    let over = none_left read held h c.loop-index.index so_far.0 so_far.1 past in
    sym (append-nil (named_entries c.loop-index.group.items))
    ∙ ap (λ l. named_entries c.loop-index.group.items ++ entries_at (all_entries read) l) (sym over) ∙ so_far.2
