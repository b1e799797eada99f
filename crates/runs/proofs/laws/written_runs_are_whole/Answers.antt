use Rattle.runs.proofs.Devices.{written_runs}
use Rattle.runs.proofs.laws.written_runs_are_whole.Goals as goal

pub returns : goal.returns
returns c = written_runs
