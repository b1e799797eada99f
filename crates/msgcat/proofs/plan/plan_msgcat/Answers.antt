use Rattle.msgcat.proofs.Prelude.{MatchResult-from_both, named_files}
use Rattle.msgcat.proofs.plan.plan_msgcat.Goals as goal

pub run_of_read-requires : goal.run_of_read-requires
run_of_read-requires c = (
  named_files c.args.inputs.now,
  MatchResult-from_both c.read_inputs-read.result _ _ c.read_inputs-read.ensures.read
      c.read_inputs-read.ensures.fault,
)

pub returns-clause-run : goal.returns-clause-run
returns-clause-run c =
    c.in_ok-run_of_read.ensures (named_files c.args.inputs.now)
    (MatchResult-from_both c.read_inputs-read.result _ _ c.read_inputs-read.ensures.read
    c.read_inputs-read.ensures.fault)
