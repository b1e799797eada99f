use Rattle.msgcat.proofs.Prelude.{[], all_entries, ap, arith, entries_at, false, get_or, groups, length, no_entry, not, refl, sym, true, ◌<◌, ◌∙◌, ◌≡◌, ◌≤◌}
use Rattle.msgcat.proofs.MergedMessages.{message_obsolete}
use Rattle.msgcat.proofs.MessageLinks.{all_left, any_left, any_live, first_inside, group_is, indexes, later, none_left, rest, rest_left, stored}
use Rattle.msgcat.proofs.merge_inputs.MergeInputs.is_obsolete.Goals as goal

pub index-index-requires : goal.index-index-requires
index-index-requires c =
    omega (
      arith,
      first_inside c.requires.0 c.args.self.now c.requires.1 c.args.number c.requires.2,
      c.args.self.now.links.firsts.ok.0,
    )

pub loop-index-init : goal.loop-index-init
loop-index-init c = λ read h below. (
  indexes read c.args.self.now h c.args.number below,
  all_left read c.args.self.now h c.args.number below c.index-index.result.now c.index-index.ensures,
  ap any_live (sym (group_is read c.args.self.now h c.args.number below)),
)

pub get-requires : goal.get-requires
get-requires c =
    let held = c.args.self.now in
    let so_far = c.loop-index.invariant c.requires.0 c.requires.1 c.requires.2 in
    let inside : c.loop-index.index < length held.links.next.items =
    omega (arith, c.loop-index-test.true, c.len.ensures, held.links.next.ok.0) in
    stored c.requires.0 held c.requires.1 c.loop-index.index so_far.0 so_far.1 inside

pub loop-index-smaller : goal.loop-index-smaller
loop-index-smaller c =
    let held = c.args.self.now in
    let at = c.loop-index.index in
    let so_far = c.loop-index.invariant c.requires.0 c.requires.1 c.requires.2 in
    let inside : at < length held.links.next.items =
    omega (arith, c.loop-index-test.true, c.len.ensures, held.links.next.ok.0) in
    omega (
      arith,
      inside,
      later c.requires.0 held c.requires.1 at so_far.0 so_far.1 inside c.index-index-in-loop-index.result.now
          c.index-index-in-loop-index.ensures,
    )

pub loop-index-preserved : goal.loop-index-preserved
loop-index-preserved c = λ read h below.
    let held = c.args.self.now in
    let at = c.loop-index.index in
    let so_far = c.loop-index.invariant read h below in
    let inside : at < length held.links.next.items =
    omega (arith, c.loop-index-test.true, c.len.ensures, held.links.next.ok.0) in (
      rest read held h at so_far.0 so_far.1 inside,
      rest_left read held h at so_far.0 so_far.1 inside c.index-index-in-loop-index.result.now
          c.index-index-in-loop-index.ensures,
      so_far.2 ∙ any_left read held h at so_far.0 so_far.1 inside c.get.result true
          (c.get.ensures.entry no_entry.entry) (sym c.obsolete.ensures ∙ c.if-not-obsolete.false),
    )

pub returns-then-not-obsolete : goal.returns-then-not-obsolete
returns-then-not-obsolete c = λ read options h below.
    let held = c.args.self.now in
    let so_far = c.loop-index.invariant read h below in
    let inside : c.loop-index.index < length held.links.next.items =
    omega (arith, c.loop-index-test.true, c.len.ensures, held.links.next.ok.0) in
    let live : any_live (get_or (groups (all_entries read)) c.args.number []) ≡ true =
    so_far.2 ∙ any_left read held h c.loop-index.index so_far.0 so_far.1 inside c.get.result false
    (c.get.ensures.entry no_entry.entry) (sym c.obsolete.ensures ∙ c.if-not-obsolete.true) in
    sym (ap not live)
    ∙ message_obsolete read c.args.number (get_or (groups (all_entries read)) c.args.number []) below refl options h.can

pub returns : goal.returns
returns c = λ read options h below.
    let held = c.args.self.now in
    let past : length held.links.next.items ≤ c.loop-index.index =
    omega (arith, c.loop-index-test.false, c.len.ensures, held.links.next.ok.0) in
    let so_far = c.loop-index.invariant read h below in
    let over = none_left read held h c.loop-index.index so_far.0 so_far.1 past in
    let none : any_live (get_or (groups (all_entries read)) c.args.number []) ≡ false =
    so_far.2 ∙ ap (λ l. any_live (entries_at (all_entries read) l)) over in
    sym (ap not none)
    ∙ message_obsolete read c.args.number (get_or (groups (all_entries read)) c.args.number []) below refl options h.can
