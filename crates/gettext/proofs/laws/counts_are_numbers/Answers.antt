use Rattle.gettext.proofs.Counts.{counts_given}
use Rattle.gettext.proofs.laws.counts_are_numbers.Goals as goal

pub returns : goal.returns
returns c = counts_given
