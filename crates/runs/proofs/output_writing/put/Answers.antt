use Rattle.runs.proofs.Prelude.{unput}
use Rattle.runs.specs.OutputWriting.{put as all_put}
use Rattle.runs.proofs.OutputsInPlace.{after-call, is-done, is-fault}
use Rattle.runs.proofs.output_writing.put.Goals as goal

pub returns-then-put_and_close : goal.returns-then-put_and_close
returns-then-put_and_close g c =
    let closed = c.if-put_and_close.ensures in after-call closed.call closed.log (is-done (all_put closed.is))

pub returns-else-put_and_close : goal.returns-else-put_and_close
returns-else-put_and_close g c =
    let closed = c.if-put_and_close.ensures in after-call closed.call closed.log (is-fault (unput closed.is))
