use Rattle.mo_expand.proofs.Prelude.{arith, length, length-messages_of, sym, ◌∙◌, ◌≡◌}
use Rattle.mo_expand.proofs.ExpandedFiles.{has_header, shown}
use Rattle.mo_expand.proofs.any_order.message_count.Goals as goal

pub returns-clause-count : goal.returns-clause-count
returns-clause-count c =
    shown c.args.bytes.now c.in-Some.order (λ o ms. c.word.result ≡ length ms) c.in-Some.ensures
    (c.word.ensures ∙ sym (length-messages_of c.in-Some.order c.args.bytes.now))

pub returns-then-bytes-lt-HEADER_LEN-clause-count : goal.returns-then-bytes-lt-HEADER_LEN-clause-count
returns-then-bytes-lt-HEADER_LEN-clause-count c order messages file =
    absurd (omega (arith, has_header order c.args.bytes.now messages file, c.if-bytes-lt-HEADER_LEN.true))
