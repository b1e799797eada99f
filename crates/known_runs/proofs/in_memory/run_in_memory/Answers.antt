use Rattle.known_runs.proofs.Prelude.{refl}
use Rattle.known_runs.proofs.CommandRuns.{ran}
use Rattle.known_runs.proofs.in_memory.run_in_memory.Goals as goal

pub returns : goal.returns
returns c =
    let starts = c.new-reader.ensures in
    ran _ _ _ _ _ _ _ _ _ _ _ _ _ _
    (rw (starts.inner, starts.calls, starts.failures) refl) c.new.ensures c.new-2.ensures
    c.system.view_is c.run-result.ensures
