use Rattle.po_catalog.proofs.Prelude.{take, texts, ◌≡◌}
use Rattle.po_catalog.proofs.text_list.copy_texts.Given as goal

abbrev pub invariant-loop-text : goal.invariant-loop-text
invariant-loop-text l = texts l.copy.items ≡ texts (take l.text-index l.list)
