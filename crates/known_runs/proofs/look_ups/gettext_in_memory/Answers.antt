use Rattle.known_runs.proofs.Prelude.{a_message, refl}
use Rattle.known_runs.proofs.look_ups.gettext_in_memory.Goals as goal

pub returns : goal.returns
returns c = c.in_hello.ensures _ (a_message refl)
