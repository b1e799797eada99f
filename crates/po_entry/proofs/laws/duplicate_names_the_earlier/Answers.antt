use Rattle.po_entry.proofs.Duplicates.{fault_names_earlier}
use Rattle.po_entry.proofs.laws.duplicate_names_the_earlier.Goals as goal

pub returns : goal.returns
returns c = fault_names_earlier
