use Rattle.po_compile.proofs.Prelude.{EachApart, take}
use Rattle.po_compile.proofs.repeats.check_each.Given as goal

abbrev pub invariant-loop-input : goal.invariant-loop-input
invariant-loop-input l = EachApart (take l.input l.inputs)
