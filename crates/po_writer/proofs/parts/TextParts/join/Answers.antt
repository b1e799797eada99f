use Rattle.po_writer.proofs.Prelude.{sym}
use Rattle.po_writer.proofs.WrittenLists.{both_parts, live_alone}
use Rattle.po_writer.proofs.parts.TextParts.join.Goals as goal

pub returns-then-is_empty-clause-written : goal.returns-then-is_empty-clause-written
returns-then-is_empty-clause-written c = λ entries are. live_alone c.args.self entries are (sym c.if-is_empty.ensures)

pub returns-clause-written : goal.returns-clause-written
returns-clause-written c =
    λ entries are. rw (c.in_ok-extend_from_slice.ensures.items, c.in_ok-push.ensures.items, c.deref.ensures.value)
    (both_parts c.args.self entries are (sym c.if-is_empty-2.ensures) (sym c.if-is_empty.ensures))
