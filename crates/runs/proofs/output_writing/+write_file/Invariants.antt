use Rattle.runs.proofs.output_writing.+write_file.Given as goal

abbrev pub decreases-write_file : goal.decreases-write_file
decreases-write_file g l = l.links
