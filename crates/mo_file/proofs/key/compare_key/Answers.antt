use Rattle.mo_file.proofs.Prelude.{ap, arith, sym, ◌∙◌}
use Rattle.std.proofs.Common.{nat_cmp}
use Rattle.mo_file.proofs.KeyComparison.{decided_within, decided_equal, decided_unequal}
use Rattle.mo_file.proofs.key.compare_key.Goals as goal

pub returns-then-at-context : goal.returns-then-at-context
returns-then-at-context c =
    rw (c.in-Some.is, c.then.ensures, c.cmp.ensures, c.byte_at.ensures)
    (sym (decided_within _ _ _ c.common_prefix_len-at.ensures _ c.if-at-context.true))

pub returns-in-Equal : goal.returns-in-Equal
returns-in-Equal c =
    let at = c.common_prefix_len-at.ensures in
    rw c.in-Some.is
    (
    c.compare_id-in-Equal.ensures
    ∙ sym (decided_equal _ _ _ at _ (omega (arith, at.within_second, c.if-at-context.false))
    (c.in-Equal.ensures ∙ ap (λ b. nat_cmp b 4) c.byte_at-2.ensures))
    )

pub returns-in_default-cmp : goal.returns-in_default-cmp
returns-in_default-cmp c =
    let at = c.common_prefix_len-at.ensures in
    rw c.in-Some.is
    (
    decided_unequal _ _ _ at _ _ (omega (arith, at.within_second, c.if-at-context.false))
    (c.cmp-2.ensures ∙ ap (λ b. nat_cmp b 4) c.byte_at-2.ensures) c.in_default-cmp.not-Equal
    )
