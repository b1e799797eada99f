use Rattle.po_entry.proofs.Prelude.{All, [], take, ◌≡◌}
use Rattle.po_entry.proofs.fields.empty_texts.Given as goal

abbrev pub invariant-loop-text : goal.invariant-loop-text
invariant-loop-text l = All (λ v. v.items ≡ []) (take l.text-index l.list)
