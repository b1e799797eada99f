use Rattle.mo_expand.proofs.SystemMessages.{first_text_counts}
use Rattle.mo_expand.proofs.laws.first_text_counts.Goals as goal

pub returns : goal.returns
returns c = first_text_counts
