use Rattle.po_entry.proofs.Prelude.{List, [], ap, arith, head_at, slice_index_or, suc, sym, texts_in, ℕ, ◌+◌, ◌-◌, ◌∙◌, ◌≡◌}
use Rattle.po_entry.proofs.entry_ref.part.Goals as goal

abbrev at : List (List ℕ) → ℕ → List ℕ
at texts k = slice_index_or texts k []

pub returns-in-None : goal.returns-in-None
returns-in-None c =
    let left = c.args.index - c.loop.counter in
    let all : c.loop.counter + left ≡ c.args.index = omega arith in
    sym (ap (at (texts_in (head_at c.args.bytes.now c.args.row.now))) (sym all) ∙ c.loop.invariant left
    ∙ ap (λ (texts : List (List ℕ)). at texts left) c.in-None.ensures)

pub loop-preserved : goal.loop-preserved
loop-preserved c = λ k.
    let more : c.loop.counter + 1 + k ≡ c.loop.counter + suc k = omega arith in
    ap (at (texts_in (head_at c.args.bytes.now c.args.row.now))) more ∙ c.loop.invariant (suc k)
    ∙ ap (λ (texts : List (List ℕ)). at texts (suc k)) c.in-Some.ensures

pub returns-in-Some-first_text : goal.returns-in-Some-first_text
returns-in-Some-first_text c =
    let all : c.loop.counter + 0 ≡ c.args.index = omega arith in
    sym (ap (at (texts_in (head_at c.args.bytes.now c.args.row.now))) (sym all) ∙ c.loop.invariant 0
    ∙ ap (λ (texts : List (List ℕ)). at texts 0) c.in-Some-first_text.ensures)

pub returns-in-None-first_text : goal.returns-in-None-first_text
returns-in-None-first_text c =
    let all : c.loop.counter + 0 ≡ c.args.index = omega arith in
    sym (ap (at (texts_in (head_at c.args.bytes.now c.args.row.now))) (sym all) ∙ c.loop.invariant 0
    ∙ ap (λ (texts : List (List ℕ)). at texts 0) c.in-None-first_text.ensures)
