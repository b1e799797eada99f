use Rattle.process.proofs.Prelude.{inr, unopened}
use Rattle.process.proofs.CallOutcomes.{opened}
use Rattle.process.proofs.reading.read_named.Goals as goal

pub returns-in_default-clause-reading : goal.returns-in_default-clause-reading
returns-in_default-clause-reading g c = inr (unopened c.in_default.ensures)

pub returns-clause-reading : goal.returns-clause-reading
returns-clause-reading g c =
    opened _ _ c.read_whole.result c.in-Some.ensures (rw (c.new.ensures.inner) at c.read_whole.ensures.bytes)
    c.read_whole.ensures.opened
