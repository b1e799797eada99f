use Rattle.po_tools.proofs.Pipelines.{msgcat_again}
use Rattle.po_tools.proofs.run_laws.msgcat_again.Goals as goal

pub returns : goal.returns
returns c = msgcat_again c.one_input_stays.ensures c.written_text_reads.ensures c.one_reading.ensures
    c.merged_entries_can_stand.ensures.can_stand c.messages_stand_once.ensures.once c.written_text_again.ensures
    c.entries_can_stand.ensures
