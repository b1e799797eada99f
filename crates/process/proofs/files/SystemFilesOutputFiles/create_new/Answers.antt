use Rattle.process.proofs.Prelude.{unmade}
use Rattle.process.proofs.CallOutcomes.{once}
use Rattle.process.proofs.files.SystemFilesOutputFiles.create_new.Goals as goal

pub returns-in-Err : goal.returns-in-Err
returns-in-Err g c = once _ c.in-Err.ensures (unmade c.make_fault.ensures)
