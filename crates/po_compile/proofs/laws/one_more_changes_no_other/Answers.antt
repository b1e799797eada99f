use Rattle.po_compile.proofs.Meaning.{one_more}
use Rattle.po_compile.proofs.laws.one_more_changes_no_other.Goals as goal

pub returns : goal.returns
returns c = one_more c.messages_mean_entries.ensures
