use Rattle.process.proofs.Prelude.{not_there, sym, there, ◌∙◌}
use Rattle.process.specs.OutputCalls.{unread}
use Rattle.process.proofs.CallOutcomes.{once}
use Rattle.process.proofs.files.SystemFilesOutputFiles.link.Goals as goal

pub returns-in-Ok : goal.returns-in-Ok
returns-in-Ok g c = once _ c.in-Ok.ensures there

pub returns-in-Ok-no_link : goal.returns-in-Ok-no_link
returns-in-Ok-no_link g c = once _ c.in-Err.ensures (not_there (sym c.no_link.ensures ∙ c.in-Ok-no_link.is))

pub returns-in-Err-no_link : goal.returns-in-Err-no_link
returns-in-Err-no_link g c = once _ c.in-Err.ensures (unread (sym c.no_link.ensures ∙ c.in-Err-no_link.is))
