use Rattle.po_entry.proofs.EntryRows.{flagged}
use Rattle.po_entry.proofs.store.Store.set_obsolete.Goals as goal

pub invariant_of-self : goal.invariant_of-self
invariant_of-self c =
    let f = flagged (λ fuzzy. fuzzy)
    (λ _. c.args.obsolete) c.self.inside.bytes.items c.self.inside.rows.items c.self.view_is
    c.requires c.index_mut.ensures.value c.self.invariant.lie c.self.invariant.valid in
    record { lie = f.lie; valid = f.valid }

pub returns : goal.returns
returns c =
    (flagged (λ fuzzy. fuzzy)
    (λ _. c.args.obsolete) c.self.inside.bytes.items c.self.inside.rows.items c.self.view_is c.requires
    c.index_mut.ensures.value c.self.invariant.lie c.self.invariant.valid).changed
