use Rattle.runs.proofs.Prelude.{drop, inputs_in, named_files, named_inputs, ◌++◌, ◌≡◌}
use Rattle.runs.proofs.inputs.Inputs.borrowed.Given as goal

abbrev pub invariant-loop-input : goal.invariant-loop-input
invariant-loop-input l =
    named_files l.borrowed.items ++ inputs_in l.left (drop l.input-index l.self.texts.items) ≡ named_inputs l.self
