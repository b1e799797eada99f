use Rattle.mo_lookup.proofs.Prelude.{query}
use Rattle.mo_lookup.proofs.Chains.{HaveNot}
use Rattle.mo_lookup.proofs.chain.Chain.look.Given as goal

abbrev pub invariant-loop-index : goal.invariant-loop-index
invariant-loop-index l = HaveNot (query l.context l.id l.plural) l.self l.index l.initial.meter l.meter
