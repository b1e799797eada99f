use Rattle.po_entry.proofs.Prelude.{map, ◌++◌, ◌≡◌}
use Rattle.po_entry.proofs.TextLists.{bytes_of}
use Rattle.po_entry.proofs.seen_texts.SeenTexts.into_list.Given as goal

-- the list and the texts that are left are all
abbrev pub invariant-loop-text-2 : goal.invariant-loop-text-2
invariant-loop-text-2 l = l.list ++ map bytes_of l.text-iterator ≡ l.fn.self
