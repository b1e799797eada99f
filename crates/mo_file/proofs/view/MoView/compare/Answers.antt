use Rattle.mo_file.proofs.Prelude.{arith}
use Rattle.mo_file.proofs.RisingKeys.{keys-at, length-messages_of}
use Rattle.mo_file.proofs.view.MoView.compare.Goals as goal

pub rest_at-requires-clause-counted : goal.rest_at-requires-clause-counted
rest_at-requires-clause-counted c =
    let inside = rw (← c.self.view_is, length-messages_of) at c.requires.inside in
    omega (arith, c.self.invariant.read.count)

pub returns-clause-order : goal.returns-clause-order
returns-clause-order c =
    let inside = rw (← c.self.view_is, length-messages_of) at c.requires.inside in
    rw (← c.self.view_is, keys-at _ _ _ inside, ← c.rest_at.ensures) c.compare_key.ensures
