use Rattle.runs.proofs.Prelude.{Stays, inputs_in, length, sum_by, true, vec_len, ◌≡◌}
use Rattle.runs.proofs.AskedInputs.{AsksBefore, Completes}
use Rattle.runs.proofs.inputs.Inputs.read.Given as goal

abbrev pub invariant-loop-argument : goal.invariant-loop-argument
invariant-loop-argument g l = record {
  inputs : Completes (g.S.InputSource.file l.fn.source)
      (g.S.InputSource.standard l.fn.source) l.arguments l.argument-index l.is_stdin_read
      (inputs_in l.bytes.items l.texts.items);
  stays : Stays (g.S.InputSource.file l.fn.source) (g.S.InputSource.file l.source)
      (g.S.InputSource.standard l.fn.source) (g.S.InputSource.standard l.source);
  all : sum_by (λ input. input.len) l.texts.items ≡ vec_len l.bytes;
  asked : AsksBefore (g.S.InputSource.asked l.fn.source)
      (g.S.InputSource.asked l.source) l.arguments l.argument-index l.is_stdin_read;
  refused : l.is_stdin_read ≡ true → g.S.InputSource.refused l.source → ⊥;
  count : length (inputs_in l.bytes.items l.texts.items) ≡ l.argument-index;
}
