use Rattle.po_entry.proofs.Prelude.{append_assoc, arith}
use Rattle.po_entry.proofs.TextLists.{more_AreTexts, texts_more}
use Rattle.po_entry.proofs.text_list.TextList.push.Goals as goal

pub invariant_of-self-2 : goal.invariant_of-self-2
invariant_of-self-2 c =
    let text = c.args.text.now in
    let before = c.self.inside.bytes.items in
    rw (
      c.in_ok-extend_from_slice.ensures.items,
      c.in_ok-add_length.ensures.ok,
      c.in_ok-make_room.ensures.items,
      append_assoc,
    )
    (more_AreTexts before text c.self.invariant (omega arith))

pub returns-clause-ok : goal.returns-clause-ok
returns-clause-ok c =
    let text = c.args.text.now in
    let before = c.self.inside.bytes.items in
    rw (
      c.in_ok-extend_from_slice.ensures.items,
      c.in_ok-add_length.ensures.ok,
      c.in_ok-make_room.ensures.items,
      append_assoc,
      ← c.self.view_is,
    )
    (texts_more before text c.self.invariant (omega arith))
