use Rattle.po_entry.proofs.Prelude.{ap, own_at, take, ◌∙◌}
use Rattle.po_entry.proofs.EntryLayout.{key_cut}
use Rattle.po_entry.proofs.entry_ref.EntryRef.key.Goals as goal

pub returns : goal.returns
returns c =
    let row = c.self.inside.row.now in
    let own = own_at c.self.inside.bytes.now row in
    rw (← c.self.view_is) (c.split_at.ensures.front ∙ ap (take row.key) c.own.ensures.own
    ∙ key_cut row.context row.key own c.self.invariant.context c.self.invariant.eot)
