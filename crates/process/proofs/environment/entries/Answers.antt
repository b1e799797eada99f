use Rattle.process.proofs.Prelude.{refl, rules}
use Rattle.process.proofs.CallOutcomes.{values_pushed}
use Rattle.process.proofs.environment.entries.Goals as goal

pub loop-text-preserved : goal.loop-text-preserved
loop-text-preserved g c =
    (values_pushed (λ entry. entry.items) (g.S.SystemCalls.entry c.args.system.now) c.loop-text.entries.items
    c.push.new.self.items c.in-Some.entry _ refl c.loop-text.invariant (search rules) (search rules)).1
