use Rattle.process.proofs.CallOutcomes.{opened}
use Rattle.process.proofs.source.SourceInputSource.read_standard.Goals as goal

pub returns-clause-reading : goal.returns-clause-reading
returns-clause-reading g c =
    opened _ _ c.read_whole.result c.input.ensures (rw (c.new.ensures.inner) at c.read_whole.ensures.bytes)
    c.read_whole.ensures.opened
