use Rattle.plural_rule.proofs.Prelude.{Operator, Parser, WaitBinary, WaitQuestion, [], ap, arith, branch_then, cases_Bool, choose_instruction, entries_in, held, inl, inr, is_lazy, jump_instruction, length, most_added, refl, weight, ◌%◌, ◌++◌, ◌+◌, ◌∙◌, ◌∷◌, ◌≡◌}
use Rattle.plural_rule.specs.declared.token.Token.TheVariants.{Binary}
use Rattle.plural_rule.specs.declared.pending.Pending.TheVariants.{Colon}
use Rattle.plural_rule.proofs.ParserSteps.{answers-close, answers-colon, short, waits}
use Rattle.plural_rule.proofs.parser.take_operator.Goals as goal

pub returns-in-Binary-clause-step : goal.returns-in-Binary-clause-step
returns-in-Binary-clause-step c stack tree h =
    let parser = c.args.parser in
    let op = c.in-Binary.operator in
    let fits = short parser.len c.args.room.now (omega (arith, c.requires.room.0)) in
    rw (c.in-Binary.is, c.wait.ensures.parser) (
      refl,
      waits (held c.args.room.now c.args.codes.now parser) stack tree (WaitBinary op tree)
          (branch_then op 0 []) _ _ _ h fits
          (c.push_branch-len.ensures.items ∙ ap (λ p. p ++ branch_then op 0 []) c.begin.ensures) refl
          c.wait.ensures.entries,
    )

pub returns-in-Question-clause-step : goal.returns-in-Question-clause-step
returns-in-Question-clause-step c stack tree h =
    let parser = c.args.parser in
    let fits = short parser.len c.args.room.now (omega (arith, c.requires.room.0)) in
    rw (c.in-Question.is, c.wait-in-Question.ensures.parser) (
      refl,
      waits (held c.args.room.now c.args.codes.now parser) stack tree (WaitQuestion tree)
          (choose_instruction 0 ∷ []) _ _ _ h fits
          (c.push-len.ensures.items ∙ ap (λ p. p ++ choose_instruction 0 ∷ []) c.begin-in-Question.ensures) refl
          c.wait-in-Question.ensures.entries,
    )

pub returns-in-Some-Question-clause-step : goal.returns-in-Some-Question-clause-step
returns-in-Some-Question-clause-step c stack tree h =
    let first = c.in-Some-Question.first in
    let popped = rw c.in-Some-Question.field-0-is at c.in-Some-Question.ensures in
    let small : first % 4096 ≡ first = let is = popped.1 in cc in
    let code = c.push-len-in-Colon.ensures.items ∙ ap (λ p. p ++ jump_instruction 0 ∷ []) c.skip_operand.ensures in
    let entries = c.wait-in-Colon.ensures.entries
    ∙ ap (λ i. Colon i ∷ entries_in c.args.codes.now c.new-before.result.count) small
    ∙ ap (λ (p : Parser). Colon first ∷ entries_in c.args.codes.now p.count) c.new-before.ensures in
    rw (c.in-Colon.is, c.wait-in-Colon.ensures.parser)
    (answers-colon (held c.args.room.now c.args.codes.now c.args.parser) first _ stack tree _ _ _ h popped.0 code
    entries refl)

pub returns-in-Some-Open-clause-step : goal.returns-in-Some-Open-clause-step
returns-in-Some-Open-clause-step c stack tree h =
    let popped = rw c.in-Some-Open.field-0-is at c.in-Some-Open.ensures in
    rw c.in-Close.is
    (answers-close (held c.args.room.now c.args.codes.now c.args.parser) _ stack tree _ _ _ h popped.0
    (ap (held c.args.room.now c.args.codes.now) c.new.ensures) (ap (λ (p : Parser). p.complete) c.new.ensures))

-- an entry that waits for an operand has one instruction to come
added : (op : Operator) → length (branch_then op 0 []) + 1 ≡ most_added (Binary op)
added op = elim (cases_Bool (is_lazy op)) [ inl e ↦ rw e refl | inr e ↦ rw e refl ]

pub returns-in-Binary-clause-room : goal.returns-in-Binary-clause-room
returns-in-Binary-clause-room c =
    rw (c.in-Binary.is, c.wait.ensures.parser) (
      omega (arith, ap weight c.wait.ensures.entries, c.push_branch-len.ensures.len, added c.in-Binary.operator),
      omega arith,
    )

pub returns-in-Question-clause-room : goal.returns-in-Question-clause-room
returns-in-Question-clause-room c =
    rw (c.in-Question.is, c.wait-in-Question.ensures.parser)
    (omega (arith, ap weight c.wait-in-Question.ensures.entries), omega arith)

pub returns-in-Some-Question-clause-room : goal.returns-in-Some-Question-clause-room
returns-in-Some-Question-clause-room c =
    let popped = rw c.in-Some-Question.field-0-is at c.in-Some-Question.ensures in
    let entries = rw c.new-before.ensures at c.wait-in-Colon.ensures.entries in
    rw (c.in-Colon.is, c.wait-in-Colon.ensures.parser, c.new-before.ensures)
    (omega (arith, ap weight entries, ap weight popped.0, c.push-len-in-Colon.ensures.len), omega (arith, popped.2))

pub returns-in-Some-Open-clause-room : goal.returns-in-Some-Open-clause-room
returns-in-Some-Open-clause-room c =
    let popped = rw c.in-Some-Open.field-0-is at c.in-Some-Open.ensures in
    rw (c.in-Close.is, c.new.ensures) (omega (arith, ap weight popped.0), omega arith)

pub push_branch-len-requires : goal.push_branch-len-requires
push_branch-len-requires c = omega (arith, added c.in-Binary.operator, rw c.in-Binary.is at c.requires.room.0)

pub push-len-requires : goal.push-len-requires
push-len-requires c = omega (arith, rw c.in-Question.is at c.requires.room.0)

pub push-len-requires-in-Colon : goal.push-len-requires-in-Colon
push-len-requires-in-Colon c = omega (arith, rw c.in-Colon.is at c.requires.room.0)

pub overflow_sub-parser : goal.overflow_sub-parser
overflow_sub-parser c =
    let popped = rw c.in-Some-Question.field-0-is at c.in-Some-Question.ensures in omega (arith, popped.2)

pub wait-requires-in-Colon : goal.wait-requires-in-Colon
wait-requires-in-Colon c = rw c.new-before.ensures (omega arith)

pub overflow_sub-parser-in-Close : goal.overflow_sub-parser-in-Close
overflow_sub-parser-in-Close c =
    let popped = rw c.in-Some-Open.field-0-is at c.in-Some-Open.ensures in omega (arith, popped.2)
