use Rattle.plural_rule.proofs.Prelude.{arith}
use Rattle.plural_rule.proofs.Programs.{stored-more}
use Rattle.plural_rule.proofs.evaluator.keep.Goals as goal

pub returns-in-0 : goal.returns-in-0
returns-in-0 g c =
    rw c.in-0.is (stored-more c.args.stack.now c.args.len c.args.newest (omega (arith, c.requires.room, c.told-stack)))
