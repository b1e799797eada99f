use Rattle.plural_rule.proofs.Prelude.{Operator, Or, ap, arith, operator_code, pending_by, pending_of, refl, ℕ, ◌%◌, ◌*◌, ◌+◌, ◌/◌, ◌∙◌, ◌≡◌}
use Rattle.plural_rule.specs.declared.pending.Pending.TheVariants.{Binary}
use Rattle.plural_rule.proofs.pending.Pending.code.Goals as goal

coded : (kind first : ℕ) → pending_of (4096 * kind + first % 4096) ≡ pending_by kind (first % 4096)
coded kind first =
    let high : (4096 * kind + first % 4096) / 4096 ≡ kind = omega arith in
    let low : (4096 * kind + first % 4096) % 4096 ≡ first % 4096 = omega arith in
    ap (λ k. pending_by k ((4096 * kind + first % 4096) % 4096)) high ∙ ap (pending_by kind) low

of_operator : (op : Operator) (first : ℕ) → pending_by (3 + operator_code op) first ≡ Binary op first
of_operator Or first = refl
of_operator _ first = refl

pub returns-in-Question : goal.returns-in-Question
returns-in-Question c = rw c.in-Question.is (coded 1 c.in-Question.first)

pub returns-in-Colon : goal.returns-in-Colon
returns-in-Colon c = rw c.in-Colon.is (coded 2 c.in-Colon.first)

pub returns-in-Binary : goal.returns-in-Binary
returns-in-Binary c =
    rw (c.in-Binary.is, c.binary.ensures)
    (coded (3 + operator_code c.in-Binary.operator) c.in-Binary.first
    ∙ of_operator c.in-Binary.operator (c.in-Binary.first % 4096))
