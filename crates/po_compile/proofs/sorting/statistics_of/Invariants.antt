use Rattle.po_compile.proofs.Prelude.{counts_of, take, ◌≡◌}
use Rattle.po_compile.proofs.sorting.statistics_of.Given as goal

abbrev pub invariant-loop-row : goal.invariant-loop-row
invariant-loop-row l = l.stats ≡ counts_of (take l.row-index l.rows)
