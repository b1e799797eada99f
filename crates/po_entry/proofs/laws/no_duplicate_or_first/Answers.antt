use Rattle.po_entry.proofs.Duplicates.{none_or_first}
use Rattle.po_entry.proofs.laws.no_duplicate_or_first.Goals as goal

pub returns : goal.returns
returns c = none_or_first
