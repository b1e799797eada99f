use Rattle.po_entry.proofs.Duplicates.{first_once}
use Rattle.po_entry.proofs.laws.one_first_duplicate.Goals as goal

pub returns : goal.returns
returns c = first_once
