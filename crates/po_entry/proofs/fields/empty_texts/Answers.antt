use Rattle.po_entry.proofs.Prelude.{take_all}
use Rattle.po_entry.proofs.AdmittedTexts.{all_empty}
use Rattle.po_entry.proofs.fields.empty_texts.Goals as goal

pub returns : goal.returns
returns c =
    let past = rw (← c.loop-text.auto.list) at c.loop-text-test.false in
    all_empty _ _ c.loop-text.auto.list (rw take_all at c.loop-text.invariant)
