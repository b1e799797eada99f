use Rattle.plural_rule.proofs.Prelude.{arith, counted, refl}
use Rattle.plural_rule.proofs.ParserSteps.{edited-within}
use Rattle.plural_rule.proofs.parser_state.begin.Goals as goal

pub returns-then-index-len : goal.returns-then-index-len
returns-then-index-len c =
    edited-within counted c.args.room.now c.args.len c.args.index _ _ c.if-index-len.true
    (omega (arith, c.requires, c.told-room)) refl
