use Rattle.process.proofs.Prelude.{told}
use Rattle.process.proofs.CallOutcomes.{once}
use Rattle.process.proofs.files.SystemFilesOutputFiles.kind.Goals as goal

pub returns : goal.returns
returns g c = once _ c.found.ensures (told c.kind_of.ensures)
