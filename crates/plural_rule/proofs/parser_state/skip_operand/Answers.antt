use Rattle.plural_rule.proofs.Prelude.{ap₂, arith, length, length-take-le, refl, skipping, take, with_skip, ◌+◌, ◌-◌, ◌∙◌, ◌≡◌}
use Rattle.plural_rule.proofs.ParserSteps.{edited-within}
use Rattle.plural_rule.proofs.parser_state.skip_operand.Goals as goal

pub returns-then-index-len : goal.returns-then-index-len
returns-then-index-len c =
    let code = take c.args.len c.args.room.now in
    let size = length-take-le c.args.len c.args.room.now (omega (arith, c.requires.len, c.told-room)) in
    let skip : c.saturating_sub.result + c.args.more ≡ length code - c.args.start + c.args.more =
    omega (arith, size, c.saturating_sub.ensures) in
    edited-within (with_skip _) c.args.room.now c.args.len _ _ _ c.if-index-len.true
    (omega (arith, c.requires.len, c.told-room)) refl
    ∙ ap₂ (λ s i. skipping i s code) skip c.saturating_sub-index.ensures
