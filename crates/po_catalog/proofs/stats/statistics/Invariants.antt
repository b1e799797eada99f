use Rattle.po_catalog.proofs.Prelude.{stats_of, take, ◌≡◌}
use Rattle.po_catalog.proofs.stats.statistics.Given as goal

abbrev pub invariant-loop-entry : goal.invariant-loop-entry
invariant-loop-entry l = l.stats ≡ stats_of (take l.entry-index l.entry-items)
