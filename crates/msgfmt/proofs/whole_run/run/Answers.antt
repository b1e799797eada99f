use Rattle.msgfmt.proofs.Prelude.{err_from_is_err_and, inputs_ended, named_inputs, none_unread, refl, run_view}
use Rattle.runs.specs.ToolRuns.{no_memory_to_read, runs}
use Rattle.msgfmt.proofs.Runs.{no_run, planned}
use Rattle.msgfmt.proofs.whole_run.run.Goals as goal

pub returns-in_err-inputs-clause-run : goal.returns-in_err-inputs-clause-run
returns-in_err-inputs-clause-run g c =
    let p = err_from_is_err_and c.from_residual.result c.from_residual.ensures.1 in
    rw (p.1, p.2) (no_memory_to_read c.read.ensures.asked c.in_err-inputs.ensures.memory refl)

pub returns-in_err-run-clause-run : goal.returns-in_err-run-clause-run
returns-in_err-run-clause-run g c =
    let p = err_from_is_err_and c.from_residual-in_err-run.result c.from_residual-in_err-run.ensures.1 in
    let read = c.in_ok-inputs.ensures in
    let next = c.in_ok-inputs.inputs.fault in
    let reported = c.in_err-run.field-0.0 in
    rw (p.1, p.2) (inputs_ended reported (record { are = read.inputs; asks = read.asked_read })
    (none_unread _ next reported read.fault c.in_err-run.ensures.first)
    (no_run c.args.options.now next reported c.in_err-run.ensures.fault))

pub returns-clause-run : goal.returns-clause-run
returns-clause-run g c =
    let read = c.in_ok-inputs.ensures in
    runs (record { are = read.inputs; asks = read.asked_read })
    (planned (named_inputs c.in_ok-inputs.inputs) c.args.options.now (run_view c.in_ok-run.run')
    c.in_ok-inputs.inputs.fault c.in_ok-run.ensures.whole c.in_ok-run.ensures.refused
    c.in_ok-run.ensures.right)
    c.write.ensures
