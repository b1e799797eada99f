use Rattle.po_entry.proofs.Statistics.{counts_add_up, empty_are_untranslated, flagged_are_fuzzy}
use Rattle.po_entry.proofs.laws.statistics_count_each_once.Goals as goal

pub returns : goal.returns
returns c = record { sum = counts_add_up; untranslated = empty_are_untranslated; fuzzy = flagged_are_fuzzy }
