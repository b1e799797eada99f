use Rattle.process.proofs.Prelude.{length, map, ◌++◌, ◌==◌, ◌≡◌}
use Rattle.std.specs.List.{slice_split}
use Rattle.process.proofs.environment.split.Given as goal

-- the entries that were taken, with those of the rest
abbrev pub invariant-loop-entries : goal.invariant-loop-entries
invariant-loop-entries l =
    map (λ entry. entry.items) l.entries.items ++ slice_split (λ byte. byte == 0) l.rest
    ≡ slice_split (λ byte. byte == 0) l.text

abbrev pub decreases-loop-entries : goal.decreases-loop-entries
decreases-loop-entries l = length l.rest
