use Rattle.known_system.proofs.Contents.{leaves}
use Rattle.known_system.proofs.laws.run_leaves_all_or_nothing.Goals as goal

pub returns : goal.returns
returns c = λ run argument before after old new result was is writes. leaves was is run argument writes
