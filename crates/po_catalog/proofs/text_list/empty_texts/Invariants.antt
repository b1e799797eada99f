use Rattle.po_catalog.proofs.Prelude.{All, [], take, ◌≡◌}
use Rattle.po_catalog.proofs.text_list.empty_texts.Given as goal

abbrev pub invariant-loop-text : goal.invariant-loop-text
invariant-loop-text l = All (λ v. v.items ≡ []) (take l.text-index l.list)
