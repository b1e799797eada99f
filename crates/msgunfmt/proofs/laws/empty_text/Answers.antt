use Rattle.msgunfmt.proofs.OneOutcome.{empty_text}
use Rattle.msgunfmt.proofs.laws.empty_text.Goals as goal

pub returns : goal.returns
returns c = empty_text c.some_entry_is_written.ensures
