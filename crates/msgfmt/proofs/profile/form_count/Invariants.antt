use Rattle.msgfmt.proofs.Prelude.{forms, length, ◌+◌, ◌≡◌, ◌≤◌}
use Rattle.msgfmt.proofs.profile.form_count.Given as goal

-- the forms that are left are counted
abbrev pub invariant-loop-rest : goal.invariant-loop-rest
invariant-loop-rest l =
    (l.count + length (forms l.last) ≡ length (forms l.translation) + 1)
    × (l.count + length l.last ≤ length l.translation + 1)

abbrev pub decreases-loop-rest : goal.decreases-loop-rest
decreases-loop-rest l = length l.last
