use Rattle.mo_file.proofs.RoundTrip.{known_revisions_are_valid}
use Rattle.mo_file.proofs.laws.known_revisions_are_valid.Goals as goal

pub returns : goal.returns
returns c = known_revisions_are_valid
