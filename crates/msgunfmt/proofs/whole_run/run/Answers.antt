use Rattle.msgunfmt.proofs.Prelude.{Err, ap, err_from_is_err_and, refl}
use Rattle.runs.specs.ToolRuns.{out_of_memory, runs_one}
use Rattle.runs.specs.Facts.RunEnds.{input_ended}
use Rattle.msgunfmt.proofs.whole_run.run.Goals as goal

pub returns-in_err-bytes-clause-run : goal.returns-in_err-bytes-clause-run
returns-in_err-bytes-clause-run g c =
    let p = err_from_is_err_and c.from_residual.result c.from_residual.ensures.1 in
    rw (p.1, p.2) (input_ended c.in_err-bytes.field-0.0 c.in_err-bytes.ensures.fault
    (λ same. c.in_err-bytes.ensures.memory (ap Err same)))

pub returns-in-Err-OutOfMemory-clause-run : goal.returns-in-Err-OutOfMemory-clause-run
returns-in-Err-OutOfMemory-clause-run g c = out_of_memory c.in_ok-bytes.ensures.read refl

pub returns-clause-run : goal.returns-clause-run
returns-clause-run g c =
    let run = rw (c.deref.ensures.value, c.shown_name.ensures) at c.in-Ok.ensures.run in
    runs_one c.in_ok-bytes.ensures.bytes run c.write.ensures
