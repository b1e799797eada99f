use Rattle.po_compile.proofs.Prelude.{AreCollected, slice_texts, take}
use Rattle.po_compile.proofs.inputs.collect_all.Given as goal

abbrev pub invariant-loop-input : goal.invariant-loop-input
invariant-loop-input l = AreCollected l.use_fuzzy (slice_texts (take l.input l.texts)) l.inputs.items
