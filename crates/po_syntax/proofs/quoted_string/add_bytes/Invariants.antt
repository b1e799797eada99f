use Rattle.po_syntax.proofs.Prelude.{IsUtf8, List, PoFault, SpellsString, StringFault, length, true, ℕ, ◌++◌, ◌≡◌}
use Rattle.po_syntax.proofs.quoted_string.add_bytes.Given as goal

abbrev pub invariant-loop-mark : goal.invariant-loop-mark
invariant-loop-mark l =
    (spelt : List ℕ)
    × (l.bytes.items ≡ l.initial.bytes.items ++ spelt)
    × ((more end : List ℕ) → SpellsString l.rest more end → SpellsString l.text (spelt ++ more) end)
    × ((fault : PoFault) → StringFault l.rest fault → StringFault l.text fault)
    × (IsUtf8 l.text → IsUtf8 l.rest)
    × (l.are_ascii ≡ true → IsUtf8 l.text → IsUtf8 spelt)

abbrev pub decreases-loop-mark : goal.decreases-loop-mark
decreases-loop-mark l = length l.rest
