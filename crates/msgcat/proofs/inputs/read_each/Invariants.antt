use Rattle.msgcat.proofs.Prelude.{AllZip, AreReadInputs, IsTextOf, List, Named, all_entries, named_files, take, unnamed, ◌≡◌}
use Rattle.msgcat.proofs.inputs.read_each.Given as goal

-- the inputs so far are read
abbrev pub invariant-loop-name : goal.invariant-loop-name
invariant-loop-name l = record {
  inputs : List Named;
  texts : AllZip IsTextOf (take l.name-index (named_files l.inputs)) inputs;
  holds : l.store ≡ unnamed (all_entries inputs);
  known : AreReadInputs inputs l.read.items;
}
