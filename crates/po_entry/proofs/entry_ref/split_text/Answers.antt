use Rattle.po_entry.proofs.EntryLayout.{first_text, only_text}
use Rattle.po_entry.proofs.entry_ref.split_text.Goals as goal

pub returns-in-Some : goal.returns-in-Some
returns-in-Some c = first_text _ _ _ c.in-Some.ensures.0 c.in-Some.ensures.1

pub returns-in-None : goal.returns-in-None
returns-in-None c = only_text _ c.in-None.ensures
