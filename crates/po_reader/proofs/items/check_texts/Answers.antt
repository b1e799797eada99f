use Rattle.po_reader.proofs.Prelude.{HasTexts, IsUtf8, Lacks, entry_here, here, later, quoted_texts, refl}
use Rattle.std.proofs.Common.{All}
use Rattle.po_reader.proofs.ReaderSteps.{asked_all, asked_more, no_row, rest_here}
use Rattle.po_reader.proofs.items.check_texts.Goals as goal

pub check_texts-requires-clause-no_nul : goal.check_texts-requires-clause-no_nul
check_texts-requires-clause-no_nul c =
    rw (c.of.ensures, c.deref.ensures.value, c.deref-row-items.ensures.value)
    (entry_here (λ entry. All (Lacks 0) (quoted_texts entry)) c.args.drafts.now.bytes.items
    c.args.drafts.now.rows.items c.loop-row.row-index no_row
    (rw c.deref-row-items.ensures.value at c.loop-row-test.true) c.requires.no_nul)

pub check_texts-requires-clause-utf8 : goal.check_texts-requires-clause-utf8
check_texts-requires-clause-utf8 c = λ are.
    rw (c.of.ensures, c.deref.ensures.value, c.deref-row-items.ensures.value)
    (entry_here (λ entry. All IsUtf8 (quoted_texts entry)) c.args.drafts.now.bytes.items
    c.args.drafts.now.rows.items c.loop-row.row-index no_row
    (rw c.deref-row-items.ensures.value at c.loop-row-test.true) (c.requires.utf8 are))

pub returns-in-Err-clause-fault : goal.returns-in-Err-clause-fault
returns-in-Err-clause-fault c =
    let below = rw c.deref-row-items.ensures.value at c.loop-row-test.true in
    let same = rw (c.deref.ensures.value, c.deref-row-items.ensures.value) at c.of.ensures in
    rw c.deref-row-items.ensures.value
    (c.loop-row.invariant.stops _ _
    (rw (rest_here c.args.drafts.now.bytes.items c.args.drafts.now.rows.items c.loop-row.row-index below)
    (here (rw same at c.in-Err.ensures) refl)))

pub loop-row-preserved : goal.loop-row-preserved
loop-row-preserved c =
    let bytes = c.args.drafts.now.bytes.items in
    let rows = c.args.drafts.now.rows.items in
    let below = rw c.deref-row-items.ensures.value at c.loop-row-test.true in
    let same = rw (c.deref.ensures.value, c.deref-row-items.ensures.value) at c.of.ensures in
    let has = rw same at c.in_default.ensures in
    record {
      passed = asked_more bytes rows c.loop-row.row-index HasTexts below c.loop-row.invariant.passed has;
      stops = λ fault line h. c.loop-row.invariant.stops _ _
          (rw (rest_here bytes rows c.loop-row.row-index below) (later has h));
    }

pub returns-clause-ok : goal.returns-clause-ok
returns-clause-ok c =
    asked_all c.args.drafts.now.bytes.items c.args.drafts.now.rows.items c.loop-row.row-index HasTexts
    (rw c.deref-row-items.ensures.value at c.loop-row-test.false) c.loop-row.invariant.passed
