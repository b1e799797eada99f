use Rattle.po_catalog.proofs.Prelude.{arith}
use Rattle.po_entry.proofs.Statistics.{counts_of_first}
use Rattle.po_catalog.proofs.stats.statistics.Goals as goal

pub count-requires-clause-translated : goal.count-requires-clause-translated
count-requires-clause-translated c =
    let counts = counts_of_first c.loop-entry.stats _ c.loop-entry.entry-index
    c.loop-entry.invariant in omega (arith, counts.translated)

pub count-requires-clause-fuzzy : goal.count-requires-clause-fuzzy
count-requires-clause-fuzzy c =
    let counts = counts_of_first c.loop-entry.stats _ c.loop-entry.entry-index
    c.loop-entry.invariant in omega (arith, counts.fuzzy)

pub count-requires-clause-untranslated : goal.count-requires-clause-untranslated
count-requires-clause-untranslated c =
    let counts = counts_of_first c.loop-entry.stats _ c.loop-entry.entry-index
    c.loop-entry.invariant in omega (arith, counts.untranslated)
