use Rattle.po_tools.proofs.OneRun.{msgattrib_once}
use Rattle.po_tools.proofs.run_laws.one_msgattrib_run.Goals as goal

pub returns : goal.returns
returns c = msgattrib_once
