use Rattle.po_tools.proofs.Prelude.{AreStored, inputs_view, take}
use Rattle.po_tools.proofs.catalogues.linked.Given as goal

-- the inputs so far are stored
abbrev pub invariant-loop-input : goal.invariant-loop-input
invariant-loop-input l = AreStored (inputs_view (take l.input-index l.inputs)) l.store l.read.items
