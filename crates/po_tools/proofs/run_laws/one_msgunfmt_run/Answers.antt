use Rattle.po_tools.proofs.OneRun.{msgunfmt_once}
use Rattle.po_tools.proofs.run_laws.one_msgunfmt_run.Goals as goal

pub returns : goal.returns
returns c = msgunfmt_once c.no_fault_where_unformatted.ensures c.one_text.ensures
    c.one_unformat_fault.ensures
