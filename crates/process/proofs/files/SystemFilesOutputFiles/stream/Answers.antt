use Rattle.process.proofs.Prelude.{errors, input, output}
use Rattle.process.proofs.CallOutcomes.{nothing, once}
use Rattle.process.proofs.files.SystemFilesOutputFiles.stream.Goals as goal

pub returns-in-0 : goal.returns-in-0
returns-in-0 g c = rw c.in-0.is (nothing input)

pub returns-in-1 : goal.returns-in-1
returns-in-1 g c = rw c.in-1.is (once _ c.output.ensures output)

pub returns-in-2 : goal.returns-in-2
returns-in-2 g c = rw c.in-2.is (once _ c.errors.ensures errors)
