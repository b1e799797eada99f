use Rattle.plural_rule.proofs.Prelude.{Count, Number, ap, arith, held, length, length-take-le, lt-ltb, nat_lt, refl, sym, true, weight, ◌^◌, ◌∙◌, ◌∷◌, ◌≡◌, ◌≤◌}
use Rattle.plural_rule.specs.declared.pending.Pending.TheVariants.{Not, Open}
use Rattle.plural_rule.proofs.ParserSteps.{first-operand}
use Rattle.plural_rule.proofs.parser.take_operand.Goals as goal

pub returns-in-Count-clause-step : goal.returns-in-Count-clause-step
returns-in-Count-clause-step c waiting h =
    let before = c.args.parser in
    let fits : before.len ≤ length c.args.room.now = omega (arith, c.requires.room.0) in
    rw (c.in-Count.is, c.new.ensures) (
      refl,
      first-operand (held c.args.room.now c.args.codes.now before) waiting Count _ before.len h
          (sym (length-take-le before.len c.args.room.now fits)) c.push-len.ensures.items,
    )

pub returns-in-Number-clause-step : goal.returns-in-Number-clause-step
returns-in-Number-clause-step c waiting h =
    let before = c.args.parser in
    let fits : before.len ≤ length c.args.room.now = omega (arith, c.requires.room.0) in
    let small : nat_lt c.in-Number.number (2 ^ 64) ≡ true = lt-ltb _ _ (omega arith) in
    rw (c.in-Number.is, c.new-in-Number.ensures)
    (rw small (
      refl,
      first-operand (held c.args.room.now c.args.codes.now before) waiting
          (Number c.in-Number.number) _ before.len h
          (sym (length-take-le before.len c.args.room.now fits)) c.push_numeral-len.ensures.items,
    ))

pub returns-in-Not-clause-step : goal.returns-in-Not-clause-step
returns-in-Not-clause-step c waiting h =
    rw (c.in-Not.is, c.wait.ensures.parser)
    (refl, record { code_is = h.code_is; entries_are = c.wait.ensures.entries ∙ ap (λ es. Not ∷ es) h.entries_are })

pub returns-in-Not-clause-room : goal.returns-in-Not-clause-room
returns-in-Not-clause-room c =
    rw (c.in-Not.is, c.wait.ensures.parser) (omega (arith, ap weight c.wait.ensures.entries), omega arith)

pub returns-in-Open-clause-step : goal.returns-in-Open-clause-step
returns-in-Open-clause-step c waiting h =
    let entries = c.wait-in-Open.ensures.entries ∙ ap (λ es. Open ∷ es) h.entries_are in
    rw (c.in-Open.is, c.wait-in-Open.ensures.parser) (refl, record { code_is = h.code_is; entries_are = entries })

pub returns-in-Open-clause-room : goal.returns-in-Open-clause-room
returns-in-Open-clause-room c =
    rw (c.in-Open.is, c.wait-in-Open.ensures.parser)
    (omega (arith, ap weight c.wait-in-Open.ensures.entries), omega arith)
