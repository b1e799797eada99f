use Rattle.mo_file.proofs.Prelude.{sym, ◌∙◌}
use Rattle.mo_file.proofs.RisingKeys.{AreRising-messages_of, length-messages_of}
use Rattle.mo_file.proofs.view.MoView.len.Goals as goal

pub returns-clause-count : goal.returns-clause-count
returns-clause-count c =
    rw (← c.self.view_is) (c.self.invariant.read.count ∙ sym (length-messages_of _ _))

pub returns-clause-rising : goal.returns-clause-rising
returns-clause-rising c =
    rw (← c.self.view_is) (AreRising-messages_of _ _ (rw c.self.invariant.read.count at c.self.invariant.sorted))
