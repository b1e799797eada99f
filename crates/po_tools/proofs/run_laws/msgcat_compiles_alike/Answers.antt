use Rattle.po_tools.proofs.Pipelines.{compiles_alike}
use Rattle.po_tools.proofs.run_laws.msgcat_compiles_alike.Goals as goal

pub returns : goal.returns
returns c = compiles_alike c.one_input_stays.ensures c.written_text_reads.ensures c.one_reading.ensures
