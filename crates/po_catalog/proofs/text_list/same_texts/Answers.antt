use Rattle.po_catalog.proofs.Prelude.{◌∙◌}
use Rattle.po_catalog.proofs.Entries.{same_vectors}
use Rattle.po_catalog.proofs.text_list.same_texts.Goals as goal

pub returns : goal.returns
returns c = c.eq.ensures ∙ same_vectors c.args.a.now c.args.b.now
