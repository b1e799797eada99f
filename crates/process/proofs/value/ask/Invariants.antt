use Rattle.process.proofs.Prelude.{◌-◌, ◌<◌, ◌^◌}
use Rattle.process.proofs.value.ask.Given as goal

abbrev pub invariant-loop-room : goal.invariant-loop-room
invariant-loop-room g l = 0 < l.capacity

abbrev pub decreases-loop-room : goal.decreases-loop-room
decreases-loop-room g l = 2 ^ 64 - l.capacity
