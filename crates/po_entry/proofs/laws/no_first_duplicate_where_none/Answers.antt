use Rattle.po_entry.proofs.Duplicates.{distinct_has_no_first}
use Rattle.po_entry.proofs.laws.no_first_duplicate_where_none.Goals as goal

pub returns : goal.returns
returns c = distinct_has_no_first
