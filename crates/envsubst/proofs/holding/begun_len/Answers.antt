use Rattle.envsubst.proofs.Prelude.{drop, false, is_begun_name, length, nil-from_length, refl, sym, take, take_rest, true, ◌∙◌, ◌≡◌}
use Rattle.envsubst.proofs.References.{begun-taken, run-begun}
use Rattle.envsubst.proofs.holding.begun_len.Goals as goal
use Rattle.envsubst.proofs.holding.begun_len.Goals.{else-begins_with, else-is_empty, then-begins_with, then-is_empty}

pub returns-then-is_name-clause-undecided : goal.returns-then-is_name-clause-undecided
returns-then-is_name-clause-undecided c =
    let piece = c.args.piece.now in
    let start = c.if-begins_with.start in
    let name = c.name_prefix-name.result.now in
    let begun : is_begun_name (take (length name) (drop start piece)) ≡ true = elim c.if-is_empty.branch [
      | then-is_empty w ↦ rw (nil-from_length name (sym w.if-is_empty.ensures)) refl
      | else-is_empty w ↦
          run-begun (drop start piece) name (simp take_rest at c.name_prefix-name.ensures)
          (sym w.is_name.ensures ∙ sym w.value-is ∙ c.if-is_name.true)
    ] in
    elim c.if-begins_with.branch [
      | then-begins_with w ↦
          begun-taken true piece start (length name) (sym c.if-not-begins_with.ensures)
          (simp take_rest at (sym w.if-begins_with.ensures)) w.start-is begun
      | else-begins_with w ↦
          begun-taken false piece start (length name) (sym c.if-not-begins_with.ensures)
          (simp take_rest at (sym w.if-begins_with.ensures)) w.start-is begun
    ]
