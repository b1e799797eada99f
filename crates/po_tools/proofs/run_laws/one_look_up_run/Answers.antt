use Rattle.po_tools.proofs.OneRun.{look_up_once}
use Rattle.po_tools.proofs.run_laws.one_look_up_run.Goals as goal

pub returns : goal.returns
returns c = look_up_once c.one_message_list.ensures c.no_fault_of_mo_file.ensures c.one_first_fault.ensures
    c.one_rule.ensures
