use Rattle.po_reader.proofs.Prelude.{refl}
use Rattle.po_reader.proofs.CommentFields.{holds_nothing}
use Rattle.po_reader.proofs.head.Head.new.Goals as goal

pub returns : goal.returns
returns c = λ all.
    holds_nothing all _ c.new.ensures c.new-2.ensures c.new-3.ensures c.new-4.ensures.items refl c.none.ensures
