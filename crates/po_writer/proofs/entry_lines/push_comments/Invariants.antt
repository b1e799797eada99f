use Rattle.po_writer.proofs.Prelude.{comment_lines, texts_left, ◌++◌, ◌≡◌}
use Rattle.po_writer.proofs.entry_lines.push_comments.Given as goal

abbrev pub invariant-loop-comment : goal.invariant-loop-comment
invariant-loop-comment l =
    l.out.items ++ comment_lines l.mark (texts_left l.comment-iterator) ≡ l.initial.out.items
    ++ comment_lines l.mark (texts_left l.initial.comments)
