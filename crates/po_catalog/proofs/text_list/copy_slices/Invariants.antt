use Rattle.po_catalog.proofs.Prelude.{slice_texts, take, texts, ◌≡◌}
use Rattle.po_catalog.proofs.text_list.copy_slices.Given as goal

abbrev pub invariant-loop-text : goal.invariant-loop-text
invariant-loop-text l = texts l.copy.items ≡ slice_texts (take l.text-index l.list)
