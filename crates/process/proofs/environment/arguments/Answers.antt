use Rattle.process.proofs.Prelude.{codes, rules, string_bytes}
use Rattle.process.proofs.CallOutcomes.{values_pushed_after}
use Rattle.process.proofs.environment.arguments.Goals as goal

pub loop-arguments-preserved : goal.loop-arguments-preserved
loop-arguments-preserved g c =
    values_pushed_after string_bytes (g.S.SystemCalls.argument c.args.system.now) (codes "pokit")
    c.loop-arguments.arguments.items c.push-in-Ok.new.self.items c.in-Ok.text c.loop-arguments.invariant
    (search rules) (search rules)
