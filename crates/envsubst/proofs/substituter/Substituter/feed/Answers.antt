use Rattle.envsubst.proofs.Prelude.{SubstituterView, length, subst, ◌≤◌}
use Rattle.envsubst.proofs.References.{undecided-length}
use Rattle.envsubst.proofs.substituter.Substituter.feed.Goals as goal

pub returns-then-self-clause-limit : goal.returns-then-self-clause-limit
returns-then-self-clause-limit g c =
    subst (λ (s : SubstituterView). length s.held ≤ 257) c.self.view_is (undecided-length _ c.self.invariant)

pub returns-clause-limit : goal.returns-clause-limit
returns-clause-limit g c = undecided-length _ c.pass-outcome.ensures.undecided
