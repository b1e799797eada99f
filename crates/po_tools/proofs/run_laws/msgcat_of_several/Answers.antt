use Rattle.po_tools.proofs.Pipelines.{several_alike}
use Rattle.po_tools.proofs.run_laws.msgcat_of_several.Goals as goal

pub returns : goal.returns
returns c =
    several_alike c.distinct_inputs_stay.ensures c.one_input_stays.ensures c.written_text_reads.ensures
    c.one_reading.ensures
