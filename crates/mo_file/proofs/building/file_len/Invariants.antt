use Rattle.mo_file.proofs.Prelude.{min, sum_by, take, ◌+◌, ◌-◌, ◌^◌, ◌≡◌}
use Rattle.mo_file.proofs.FileLayout.{pair_len}
use Rattle.mo_file.proofs.building.file_len.Given as goal

abbrev pub invariant-loop-pair : goal.invariant-loop-pair
invariant-loop-pair g l =
    l.len ≡ min (28 + sum_by (pair_len g.P.StringPair.message) (take l.pair-index l.pairs)) (2 ^ 64 - 1)
