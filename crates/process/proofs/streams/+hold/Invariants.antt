use Rattle.process.proofs.streams.+hold.Given as goal

abbrev pub decreases-hold : goal.decreases-hold
decreases-hold g l = l.left
