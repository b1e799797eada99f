use Rattle.po_reader.proofs.Prelude.{HasAdmittedCharset, false≢true, foreign, here, inl, inr, later, passed_on, refl, sym, ◌∙◌}
use Rattle.po_reader.proofs.ReaderSteps.{asked_all, asked_more, rest_here}
use Rattle.po_reader.proofs.OneOutcome.{texts_reported}
use Rattle.po_reader.proofs.items.check_drafts.Goals as goal

pub returns-in_err-check_texts-clause-fault : goal.returns-in_err-check_texts-clause-fault
returns-in_err-check_texts-clause-fault c =
    passed_on c.from_residual.result _ c.from_residual.ensures.1 (inl c.in_err-check_texts.ensures.fault)

pub returns-in_err-check_texts-clause-other : goal.returns-in_err-check_texts-clause-other
returns-in_err-check_texts-clause-other c =
    passed_on c.from_residual.result _ c.from_residual.ensures.1 (texts_reported c.in_err-check_texts.ensures.fault)

pub returns-then-not-has_admitted_charset-clause-fault : goal.returns-then-not-has_admitted_charset-clause-fault
returns-then-not-has_admitted_charset-clause-fault c =
    let below = rw c.deref-row-items.ensures.value at c.loop-row-test.true in
    let same = rw (c.deref.ensures.value, c.deref-row-items.ensures.value) at c.of.ensures in
    rw c.deref-row-items.ensures.value (inr (
      c.in_ok-check_texts.ensures.ok,
      c.loop-row.invariant.stops _ _
          (rw (rest_here c.args.drafts.now.bytes.items c.args.drafts.now.rows.items c.loop-row.row-index below)
          (here (foreign (λ admitted. absurd (false≢true (sym c.if-not-has_admitted_charset.true
          ∙ c.has_admitted_charset.ensures.1 (rw same admitted))))) refl)),
    ))

pub loop-row-preserved : goal.loop-row-preserved
loop-row-preserved c =
    let bytes = c.args.drafts.now.bytes.items in
    let rows = c.args.drafts.now.rows.items in
    let below = rw c.deref-row-items.ensures.value at c.loop-row-test.true in
    let same = rw (c.deref.ensures.value, c.deref-row-items.ensures.value) at c.of.ensures in
    let admitted = rw same at (c.has_admitted_charset.ensures.0 c.if-not-has_admitted_charset.false) in
    record {
      admitted = asked_more bytes rows c.loop-row.row-index HasAdmittedCharset below
          c.loop-row.invariant.admitted admitted;
      stops = λ fault line h. c.loop-row.invariant.stops _ _
          (rw (rest_here bytes rows c.loop-row.row-index below) (later admitted h));
    }

pub returns-clause-charsets : goal.returns-clause-charsets
returns-clause-charsets c =
    asked_all c.args.drafts.now.bytes.items c.args.drafts.now.rows.items c.loop-row.row-index HasAdmittedCharset
    (rw c.deref-row-items.ensures.value at c.loop-row-test.false) c.loop-row.invariant.admitted
