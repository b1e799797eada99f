use Rattle.po_compile.proofs.Prelude.{AllApart, IsRepeatAt, MatchOption-at_some, all_messages, ap, get_or, input_keys, inr, refl, row_view, subst, sym, ◌∙◌, ◌≡◌}
use Rattle.std.proofs.Math.ListN.{get_or-map}
use Rattle.po_compile.proofs.DistinctKeys.{repeat_found}
use Rattle.po_compile.proofs.repeats.check_joined.Goals as goal

pub returns-clause-fault : goal.returns-clause-fault
returns-clause-fault c =
    let messages = all_messages c.args.inputs.now in
    let keys = input_keys messages in
    let repeat = MatchOption-at_some (AllApart keys) (λ at. IsRepeatAt keys at.0 at.1)
    (c.in-Some.first, c.in-Some.later) c.in-Some.is
    (rw (c.deref.ensures.value, c.in_ok-keys.ensures) at c.in_ok-first.ensures) in
    let rows = c.in_ok-rows.rows.items in
    let one = c.index.result.now in
    let other = c.index-2.result.now in
    inr (
      row_view one,
      row_view other,
      repeat_found messages c.in-Some.later c.in-Some.first repeat (row_view one) (row_view other)
          (subst (λ ms. row_view one ≡ get_or ms c.in-Some.first (row_view one)) c.in_ok-rows.ensures
          (ap row_view c.index.ensures ∙ sym (get_or-map row_view rows c.in-Some.first one)))
          (subst (λ ms. row_view other ≡ get_or ms c.in-Some.later (row_view other)) c.in_ok-rows.ensures
          (ap row_view c.index-2.ensures ∙ sym (get_or-map row_view rows c.in-Some.later other))),
      rw (c.duplicate_at.ensures, c.line.ensures, c.line-2.ensures) refl,
    )
