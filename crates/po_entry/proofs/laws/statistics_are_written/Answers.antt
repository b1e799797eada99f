use Rattle.po_entry.proofs.Statistics.{statistics_written}
use Rattle.po_entry.proofs.laws.statistics_are_written.Goals as goal

pub returns : goal.returns
returns c = statistics_written
