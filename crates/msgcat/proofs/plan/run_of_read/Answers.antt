use Rattle.msgcat.proofs.Prelude.{IfOk-weaker, ap, first_name, inl, inr, msgcat_line, refusal, ◌∙◌}
use Rattle.msgcat.proofs.Runs.{first_named}
use Rattle.msgcat.proofs.plan.run_of_read.Goals as goal

pub returns : goal.returns
returns c =
    IfOk-weaker c.refused_text-in-Err-merged_text.result _ _
    (λ run reported files held.
    let read = rw c.in-Ok.is at held in
    elim (c.in-Err-merged_text.ensures read.0 read.2) [
      | inl memory ↦ absurd (reported.0 (ap (λ e. e.kind) memory))
      | inr foreign ↦ inr (inl (record {
        inputs = read.0;
        read = read.1;
        foreign = foreign.0;
        run_is = reported.1
            ∙ ap (λ name. refusal (msgcat_line name c.in-Err-merged_text.error))
            (c.first_name.ensures read.0 read.2 ∙ first_named files read.0 read.1)
            ∙ ap (λ error. refusal (msgcat_line (first_name files) error)) foreign.1;
      }))
    ])
    c.refused_text-in-Err-merged_text.ensures.run
