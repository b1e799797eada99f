use Rattle.msgattrib.proofs.SelectedEntries.{run_refused}
use Rattle.msgattrib.proofs.plan.plan_msgattrib.Goals as goal

pub returns-in_ok-refused_text-in-Err-clause-run : goal.returns-in_ok-refused_text-in-Err-clause-run
returns-in_ok-refused_text-in-Err-clause-run c =
    run_refused c.args.name.now c.args.text.now c.args.selection.now c.in-Err.error c.in_ok-refused_text-in-Err.field-0
    c.in-Err.ensures c.in_ok-refused_text-in-Err.ensures.run
