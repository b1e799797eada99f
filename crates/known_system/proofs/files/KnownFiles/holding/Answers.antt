use Rattle.known_system.proofs.Prelude.{None, refl}
use Rattle.known_system.proofs.files.KnownFiles.holding.Goals as goal

pub invariant_of-result : goal.invariant_of-result
invariant_of-result c = record { tied = c.told-history.ensures None (rw c.new.ensures refl) }
