use Rattle.po_entry.proofs.Prelude.{arith}
use Rattle.std.proofs.lemmas.Grind.{common_steps}
use Rattle.po_entry.proofs.EntryLayout.{forms_laid}
use Rattle.po_entry.proofs.layout.add_message.Goals as goal

pub returns-clause-row : goal.returns-clause-row
returns-clause-row c = let laid = forms_laid c.args.translation.now in grind (arith, common_steps)

pub returns-clause-added : goal.returns-clause-added
returns-clause-added c = let laid = forms_laid c.args.translation.now in grind (arith, common_steps)
