use Rattle.po_catalog.proofs.Prelude.{IsEntry-without_previous}
use Rattle.po_catalog.proofs.entry.Entry.clear_previous.Goals as goal

pub invariant_of-self : goal.invariant_of-self
invariant_of-self c = rw c.none.ensures (IsEntry-without_previous _ c.self.invariant)
