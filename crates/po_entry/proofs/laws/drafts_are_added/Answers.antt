use Rattle.po_entry.proofs.EntryRows.{added}
use Rattle.po_entry.proofs.laws.drafts_are_added.Goals as goal

pub returns : goal.returns
returns c = added
