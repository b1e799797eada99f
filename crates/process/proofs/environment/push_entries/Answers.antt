use Rattle.process.proofs.Prelude.{rules}
use Rattle.process.proofs.CallOutcomes.{values_pushed}
use Rattle.process.proofs.environment.push_entries.Goals as goal

pub loop-index-preserved : goal.loop-index-preserved
loop-index-preserved g c =
    values_pushed (λ entry. entry.items) (g.S.SystemCalls.entry c.args.system.now) c.loop-index.entries.items
    c.push.new.self.items c.in-Some.entry c.loop-index.index c.loop-index.invariant.0 c.loop-index.invariant.1
    (search rules) (search rules)
