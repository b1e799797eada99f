use Rattle.msgfmt.proofs.Prelude.{named_files}
use Rattle.msgfmt.proofs.plan.plan_msgfmt.Goals as goal

pub returns-clause-run : goal.returns-clause-run
returns-clause-run c =
    c.in_ok-gathered_run.ensures (named_files c.args.inputs.now) c.in_ok-gathered.ensures
