use Rattle.known_system.proofs.Prelude.{take, tellings, ◌++◌, ◌≡◌}
use Rattle.known_system.proofs.files.told.Given as goal

abbrev pub invariant-loop-link : goal.invariant-loop-link
invariant-loop-link l = l.history.calls ≡ l.fn.before.calls ++ tellings (take l.link-index l.links)
