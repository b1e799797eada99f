use Rattle.msgunfmt.proofs.Messages.{text_or_fault}
use Rattle.msgunfmt.proofs.laws.text_or_fault.Goals as goal

pub returns : goal.returns
returns c = text_or_fault c.mo_file_or_fault.ensures
