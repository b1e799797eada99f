use Rattle.msgfmt.proofs.Prelude.{input_names, input_texts, named_files, slice_texts, take, ◌≡◌}
use Rattle.msgfmt.proofs.plan.gather.Given as goal

abbrev pub invariant-loop-name : goal.invariant-loop-name
invariant-loop-name l = record {
  named : slice_texts l.names.items ≡ input_names (named_files (take l.name-index l.inputs));
  taken : slice_texts l.texts.items ≡ input_texts (named_files (take l.name-index l.inputs));
}
