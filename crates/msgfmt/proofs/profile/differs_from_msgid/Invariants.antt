use Rattle.msgfmt.proofs.Prelude.{differ, forms, has_newline, length, list_any, ◌≡◌}
use Rattle.msgfmt.proofs.profile.differs_from_msgid.Given as goal

-- the forms that are left decide
abbrev pub invariant-loop-form : goal.invariant-loop-form
invariant-loop-form l =
    list_any (λ text. differ l.wanted (has_newline l.end text)) (forms l.last)
    ≡ list_any (λ text. differ l.wanted (has_newline l.end text)) (forms l.message.translation.now)

abbrev pub decreases-loop-form : goal.decreases-loop-form
decreases-loop-form l = length l.last
