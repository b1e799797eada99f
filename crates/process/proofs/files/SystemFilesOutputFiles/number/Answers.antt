use Rattle.process.proofs.Prelude.{counted, random, refl}
use Rattle.process.proofs.CallOutcomes.{once}
use Rattle.process.proofs.files.SystemFilesOutputFiles.number.Goals as goal

pub returns-in-Some : goal.returns-in-Some
returns-in-Some g c = once _ c.in-Some.ensures random

pub returns-in-None : goal.returns-in-None
returns-in-None g c = once _ c.in-None.ensures (counted refl)
