use Rattle.runs.proofs.Prelude.{opened, unopened}
use Rattle.runs.proofs.OutputsInPlace.{after-call, done-for, is-fault}
use Rattle.runs.proofs.output_writing.write_in_place.Goals as goal

pub returns-in-None : goal.returns-in-None
returns-in-None g c = after-call _ c.in-None.ensures (is-fault unopened)

pub returns-in-Some : goal.returns-in-Some
returns-in-Some g c = after-call _ c.in-Some.ensures (done-for (λ course puts. opened puts) c.put.ensures)
