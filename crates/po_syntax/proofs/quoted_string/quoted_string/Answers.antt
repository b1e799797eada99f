use Rattle.po_syntax.proofs.Prelude.{IsUtf8, [], ap, append-nil, arith, subst, sym, ◌++◌, ◌∙◌}
use Rattle.po_syntax.proofs.StringsRead.{closes, stops_at_end}
use Rattle.po_syntax.proofs.Utf8Lines.{before-utf8}
use Rattle.po_syntax.proofs.quoted_string.quoted_string.Goals as goal

pub returns-in_default-clause-fault : goal.returns-in_default-clause-fault
returns-in_default-clause-fault c = λ _. c.split_plain.ensures.stops _ (stops_at_end _ c.in_default.ensures.cases)

pub returns-then-mark-eq34-clause-found : goal.returns-then-mark-eq34-clause-found
returns-then-mark-eq34-clause-found c =
    rw append-nil at (c.split_plain.ensures.spelt [] _ (closes _ _ _ c.in-Some.ensures.cases.0 c.if-mark-eq34.true))

pub returns-then-mark-eq34-clause-lent : goal.returns-then-mark-eq34-clause-lent
returns-then-mark-eq34-clause-lent c = λ utf8.
    let plain = c.split_plain.result.0.now in
    let cut = ap (λ end. plain ++ end) c.in-Some.ensures.cases.0 in
    before-utf8 plain c.in-Some.after.now c.in-Some.mark.now (omega (arith, c.if-mark-eq34.true))
    (subst IsUtf8 (sym c.split_plain.ensures.parts ∙ cut) utf8)
