use Rattle.po_reader.proofs.Prelude.{Before, Between, ap, own_marks, passed_on, sym, wanted_view, with_keyword, with_own, ◌∙◌}
use Rattle.po_reader.proofs.ReaderSteps.{fails_from, first_refused, no_keyword, taken}
use Rattle.po_reader.proofs.body.take_keyword_text.Goals as goal

pub returns-in_default-clause-fault : goal.returns-in_default-clause-fault
returns-in_default-clause-fault c = λ read same.
    rw c.refusal.ensures (record {
      fault = λ other. no_keyword _ _ c.in_default.ensures read (wanted_view c.args.wanted);
      memory = λ memory. absurd cc;
    })

pub returns-in-Some-keyword_fault-clause-fault : goal.returns-in-Some-keyword_fault-clause-fault
returns-in-Some-keyword_fault-clause-fault c = λ read same.
    rw c.refusal-in-Some-keyword_fault.ensures (record {
      fault = λ other. first_refused _ _ _ _ _ c.in-Some.ensures (Between (Before read (wanted_view c.args.wanted)))
          (c.in-Some-keyword_fault.ensures.step read c.in-Some.line same);
      memory = λ memory. absurd (c.in-Some-keyword_fault.ensures.other memory);
    })

pub returns-in_err-take_strings-clause-fault : goal.returns-in_err-take_strings-clause-fault
returns-in_err-take_strings-clause-fault c = passed_on c.from_residual.result _ c.from_residual.ensures.1 (λ read same.
    fails_from (taken _ _ _ _ c.in-Some.ensures (Between (Before read (wanted_view c.args.wanted))) _
    (c.in_default-keyword_fault.ensures.step read c.in-Some.line same))
    (rw (c.own.ensures ∙ ap own_marks (sym same), c.advance.ensures.rest) at
    (c.in_err-take_strings.ensures.fault
    (with_own read (with_keyword c.in-Some.keyword c.in-Some.line read.own)) c.in-Some.keyword)))
