use Rattle.mo_file.proofs.RoundTrip.{layout_is_mo_file}
use Rattle.mo_file.proofs.laws.layout_is_mo_file.Goals as goal

pub returns : goal.returns
returns c = layout_is_mo_file
