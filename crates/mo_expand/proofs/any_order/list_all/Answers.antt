use Rattle.mo_expand.proofs.Prelude.{Some, ap, arith, length, length-messages_of, map-messages_of-at, message_count, messages_of_borrowed, refl, sym, take_all, ◌<◌, ◌∙◌, ◌≤◌}
use Rattle.mo_expand.proofs.ExpandedFiles.{has_header, original-inside, originals-inside, translation-inside, translations-inside}
use Rattle.mo_expand.proofs.AddedMessages.{listed-next}
use Rattle.mo_expand.proofs.any_order.list_all.Goals as goal

pub word-originals-requires : goal.word-originals-requires
word-originals-requires c = omega (arith, has_header _ _ _ c.requires.file)

pub word-translations-requires : goal.word-translations-requires
word-translations-requires c = omega (arith, has_header _ _ _ c.requires.file)

pub word-i-end-requires : goal.word-i-end-requires
word-i-end-requires c = omega (arith, has_header _ _ _ c.requires.file)

pub string_at-requires-clause-entry : goal.string_at-requires-clause-entry
string_at-requires-clause-entry c =
    omega (
      arith,
      originals-inside _ _ _ c.requires.file,
      c.word-originals.ensures,
      c.word-i-end.ensures,
      c.loop-i-test.true,
    )

pub string_at-requires-clause-string : goal.string_at-requires-clause-string
string_at-requires-clause-string c =
    rw c.word-originals.ensures
    (original-inside _ _ _ c.requires.file c.loop-i.i (omega (arith, c.word-i-end.ensures, c.loop-i-test.true)))

pub string_at-requires-in-loop-i-clause-entry : goal.string_at-requires-in-loop-i-clause-entry
string_at-requires-in-loop-i-clause-entry c =
    omega (
      arith,
      translations-inside _ _ _ c.requires.file,
      c.word-translations.ensures,
      c.word-i-end.ensures,
      c.loop-i-test.true,
    )

pub string_at-requires-in-loop-i-clause-string : goal.string_at-requires-in-loop-i-clause-string
string_at-requires-in-loop-i-clause-string c =
    rw c.word-translations.ensures
    (translation-inside _ _ _ c.requires.file c.loop-i.i (omega (arith, c.word-i-end.ensures, c.loop-i-test.true)))

pub bounds-list-i : goal.bounds-list-i
bounds-list-i c =
    omega (
      arith,
      c.requires.room,
      length-messages_of c.args.order c.args.bytes.now,
      c.word-i-end.ensures,
      c.loop-i-test.true,
      c.loop-i.auto.list,
    )

pub loop-i-preserved : goal.loop-i-preserved
loop-i-preserved c =
    let counted : c.loop-i.i < message_count c.args.order c.args.bytes.now =
    omega (arith, c.word-i-end.ensures, c.loop-i-test.true) in
    listed-next _ c.loop-i.i _ _
    (omega (arith, counted, c.requires.room, length-messages_of c.args.order c.args.bytes.now, c.loop-i.auto.list))
    c.loop-i.invariant
    (map-messages_of-at _ _ (λ m. m.original) _ counted
    ∙ ap Some (rw (c.string_at.ensures, c.word-originals.ensures) refl))
    (map-messages_of-at _ _ (λ m. m.translation) _ counted
    ∙ ap Some (rw (c.string_at-in-loop-i.ensures, c.word-translations.ensures) refl))

pub returns : goal.returns
returns c =
    let many : length c.loop-i.list ≤ c.loop-i.i =
    omega (
      arith,
      c.requires.room,
      length-messages_of c.args.order c.args.bytes.now,
      c.word-i-end.ensures,
      c.loop-i-test.false,
      c.loop-i.auto.list,
    ) in
    ap messages_of_borrowed (sym (take_all c.loop-i.i c.loop-i.list many)) ∙ c.loop-i.invariant
    ∙ take_all c.loop-i.i _ (omega (arith, many, c.requires.room, c.loop-i.auto.list))
