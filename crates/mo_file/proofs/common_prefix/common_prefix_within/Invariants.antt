use Rattle.mo_file.proofs.Prelude.{AreEqualBetween, ◌-◌, ◌≤◌}
use Rattle.mo_file.proofs.common_prefix.common_prefix_within.Given as goal

abbrev pub invariant-groups : goal.invariant-groups
invariant-groups g l = record {
  equal : AreEqualBetween l.stop l.first l.second 0 l.at;
  inside : l.at ≤ l.len;
}

abbrev pub decreases-groups : goal.decreases-groups
decreases-groups g l = l.last - l.at
