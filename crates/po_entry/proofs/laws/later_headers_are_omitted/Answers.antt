use Rattle.po_entry.proofs.JoinedLists.{later_headers_omitted}
use Rattle.po_entry.proofs.laws.later_headers_are_omitted.Goals as goal

pub returns : goal.returns
returns c = later_headers_omitted
