use Rattle.po_writer.proofs.Prelude.{List, [], ap, append-nil, append_assoc, arith, eqb-true, flat_map, length, lines_with_ends, nat_lt, not, refl, string_line, sym, true, ℕ, ◌++◌, ◌==◌, ◌∙◌, ◌∷◌, ◌≡◌}
use Rattle.po_writer.proofs.WrittenLines.{several}
use Rattle.po_writer.proofs.keyword_lines.push_text.Goals as goal

empty : (text : List ℕ) → (length text == 0) ≡ true → text ≡ []
empty [] e = refl
empty (b ∷ text) e = absurd (omega (arith, eqb-true _ 0 e))

pub returns : goal.returns
returns c =
    let more : nat_lt 1 (length (lines_with_ends c.args.text.now)) ≡ true =
    sym (several c.args.text.now c.split_line.result.0.now c.split_line.result.1.now c.split_line.ensures.lines
    c.split_line.ensures.empty) ∙ ap not (sym c.is_empty.ensures ∙ c.if-is_empty.false) in
    let over = empty c.loop-rest.rest.now (sym c.loop-rest-test.ensures) in
    let strings = flat_map (string_line c.args.prefix.now) (lines_with_ends c.args.text.now) in
    rw (more, ← append-nil c.loop-rest.out.items) (record {
      appended = rw over at c.loop-rest.invariant ∙ ap (λ l. l ++ strings) c.in_ok-push_string.ensures.appended
          ∙ append_assoc c.args.out.now.items (string_line [] []) strings;
    })
