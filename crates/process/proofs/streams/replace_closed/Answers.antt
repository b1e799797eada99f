use Rattle.process.proofs.Prelude.{all_open, no_errors, no_input, no_output}
use Rattle.process.proofs.CallOutcomes.{once, so, then}
use Rattle.process.proofs.streams.replace_closed.Goals as goal

pub returns-then-not-has_input-clause-calls : goal.returns-then-not-has_input-clause-calls
returns-then-not-has_input-clause-calls g c =
    then _ c.if-not-has_input.ensures (so (λ rest is. no_input is) c.hold.ensures.calls)

pub returns-then-not-has_output-clause-calls : goal.returns-then-not-has_output-clause-calls
returns-then-not-has_output-clause-calls g c =
    then _ c.if-not-has_input.ensures (then _ c.if-not-has_output.ensures
    (so (λ rest is. no_output is) c.hold-then-not-has_output.ensures.calls))

pub returns-then-not-has_errors-clause-calls : goal.returns-then-not-has_errors-clause-calls
returns-then-not-has_errors-clause-calls g c =
    then _ c.if-not-has_input.ensures (then _ c.if-not-has_output.ensures (then _ c.if-not-has_errors.ensures
    (so (λ rest is. no_errors is) c.hold-then-not-has_errors.ensures.calls)))

pub returns-clause-calls : goal.returns-clause-calls
returns-clause-calls g c =
    then _ c.if-not-has_input.ensures (then _ c.if-not-has_output.ensures (once _ c.if-not-has_errors.ensures all_open))
