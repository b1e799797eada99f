use Rattle.po_compile.proofs.Prelude.{slice_texts}
use Rattle.po_compile.proofs.DistinctKeys.{AreSeen}
use Rattle.po_compile.proofs.repeats.first_repeat.Given as goal

abbrev pub invariant-loop-later : goal.invariant-loop-later
invariant-loop-later l = AreSeen (slice_texts l.keys) l.later l.seen
