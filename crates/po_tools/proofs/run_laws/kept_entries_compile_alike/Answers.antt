use Rattle.po_tools.proofs.Pipelines.{compiled, kept}
use Rattle.po_tools.proofs.run_laws.kept_entries_compile_alike.Goals as goal

pub returns : goal.returns
returns c = record {
  kept = kept c.conditions_alone_keep.ensures;
  compiled = compiled c.conditions_alone_keep.ensures;
}
