use Rattle.mo_file.proofs.Prelude.{arith}
use Rattle.mo_file.proofs.RisingKeys.{length-messages_of}
use Rattle.mo_file.proofs.view.MoView.open_in.Goals as goal

pub returns-clause-cost : goal.returns-clause-cost
returns-clause-cost g c =
    let counted = length-messages_of c.in_ok-header.header.order c.args.bytes.now in
    omega (arith, c.in_ok-check_keys.ensures.cost, c.in_ok-header.ensures.exact.count)
