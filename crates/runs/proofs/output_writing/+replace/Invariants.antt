use Rattle.runs.proofs.output_writing.+replace.Given as goal

abbrev pub decreases-replace : goal.decreases-replace
decreases-replace g l = l.tries
