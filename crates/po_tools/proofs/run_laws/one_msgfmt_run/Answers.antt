use Rattle.po_tools.proofs.OneRun.{msgfmt_once}
use Rattle.po_tools.proofs.run_laws.one_msgfmt_run.Goals as goal

pub returns : goal.returns
returns c = msgfmt_once c.messages_are_one.ensures c.one_rule.ensures
