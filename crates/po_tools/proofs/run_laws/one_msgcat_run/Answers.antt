use Rattle.po_tools.proofs.OneRun.{msgcat_once}
use Rattle.po_tools.proofs.run_laws.one_msgcat_run.Goals as goal

pub returns : goal.returns
returns c = msgcat_once
