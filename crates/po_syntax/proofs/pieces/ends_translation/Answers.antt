use Rattle.po_syntax.proofs.Prelude.{arith, inl, inr, length, length-map, ltb-true, view, views, ◌<◌, ◌≤◌}
use Rattle.po_syntax.proofs.PieceLines.{ends_at, ends_nowhere}
use Rattle.po_syntax.proofs.pieces.ends_translation.Goals as goal

pub returns-then-count-eq0 : goal.returns-then-count-eq0
returns-then-count-eq0 c =
    let before = c.before_strings-count.ensures in
    let within : c.before_strings-count.result ≤ length (views c.args.items.now) =
    omega (arith, length-map c.args.items.now view) in (
      λ no. absurd (cc),
      λ ends.
          absurd (ends_nowhere (views c.args.items.now) c.before_strings-count.result within before.strings before.last
          (inl c.if-count-eq0.true) ends),
    )

pub returns-then-count-items : goal.returns-then-count-items
returns-then-count-items c =
    let before = c.before_strings-count.ensures in
    let word = c.is_translation_word.ensures in
    let ends = ends_at c.args.items.now c.before_strings-count.result c.index-items-count.result (omega arith)
    (omega arith) before.strings before.last c.index-items-count.is in
    (λ is. ends.0 (word.0 is), λ is. word.1 (ends.1 is))

pub returns-else-count-items : goal.returns-else-count-items
returns-else-count-items c =
    let before = c.before_strings-count.ensures in
    let long = length-map c.args.items.now view in
    let within : c.before_strings-count.result ≤ length (views c.args.items.now) = omega arith in
    let all : length (views c.args.items.now) ≤ c.before_strings-count.result = omega arith in (
      λ is. let less : c.before_strings-count.result < length c.args.items.now = ltb-true _ _ is in
          absurd (omega arith),
      λ ends.
          absurd (ends_nowhere (views c.args.items.now) c.before_strings-count.result within before.strings
          before.last (inr all) ends),
    )
