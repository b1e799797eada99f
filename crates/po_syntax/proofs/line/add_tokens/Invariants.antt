use Rattle.po_syntax.proofs.Prelude.{AddsLent, HoldsTokens, IsUtf8, List, PoFault, TextItem, TokensFault, length, views, ◌++◌, ◌≡◌}
use Rattle.po_syntax.proofs.line.add_tokens.Given as goal

abbrev pub invariant-loop-first : goal.invariant-loop-first
invariant-loop-first l =
    (spelt : List TextItem)
    × (views l.items.items ≡ views l.initial.items.items ++ spelt)
    × ((more : List TextItem) → HoldsTokens l.marks l.line l.rest more
    → HoldsTokens l.marks l.line l.text (spelt ++ more))
    × ((fault : PoFault) → TokensFault l.rest fault → TokensFault l.text fault)
    × (IsUtf8 l.text → IsUtf8 l.rest)
    × AddsLent l.text l.initial.items.items l.items.items

abbrev pub decreases-loop-first : goal.decreases-loop-first
decreases-loop-first l = length l.rest
