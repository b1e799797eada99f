use Rattle.std.proofs.Common.{length}
use Rattle.catalogue_tests.proofs.reading.pieces.read_in_pieces.Given as goal

abbrev pub decreases-loop-pieces : goal.decreases-loop-pieces
decreases-loop-pieces l = length l.pieces.lines
