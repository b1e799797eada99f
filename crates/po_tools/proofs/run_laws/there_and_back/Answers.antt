use Rattle.po_tools.proofs.RoundTrip.{there_and_back}
use Rattle.po_tools.proofs.run_laws.there_and_back.Goals as goal

pub returns : goal.returns
returns c = there_and_back c.unformat_then_compile.ensures c.no_fault_where_unformatted.ensures c.one_text.ensures
    c.no_fault_where_accepted.ensures c.one_message_list.ensures
