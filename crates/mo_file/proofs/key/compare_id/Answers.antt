use Rattle.mo_file.proofs.Prelude.{arith, sym}
use Rattle.mo_file.proofs.KeyComparison.{decided_before_end, decided_at_end}
use Rattle.mo_file.proofs.key.compare_id.Goals as goal

pub returns-then-at-id : goal.returns-then-at-id
returns-then-at-id c =
    rw (c.then.ensures, c.cmp.ensures, c.byte_at.ensures)
    (sym (decided_before_end _ _ _ c.common_prefix_len-at.ensures c.if-at-id.true))

pub returns : goal.returns
returns c =
    let at = c.common_prefix_len-at.ensures in
    rw (c.cmp-2.ensures, c.byte_at-2.ensures)
    (sym (decided_at_end _ _ _ at (omega (arith, at.within_second, c.if-at-id.false))))
