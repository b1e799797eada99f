use Rattle.msgfmt.proofs.Prelude.{count_fault, counts_below, first_some, range_with_len, ◌-◌, ◌≡◌}
use Rattle.msgfmt.proofs.profile.first_count_fault.Given as goal

-- the counts that are left decide
abbrev pub invariant-loop-count : goal.invariant-loop-count
invariant-loop-count l =
    first_some (count_fault l.rule) (range_with_len l.count (l.end - l.count))
    ≡ first_some (count_fault l.rule) (counts_below l.end)
