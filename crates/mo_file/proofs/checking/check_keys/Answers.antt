use Rattle.mo_file.proofs.Prelude.{arith, ◌∙◌}
use Rattle.mo_file.proofs.Faults.{first_unsorted}
use Rattle.mo_file.proofs.checking.check_keys.Goals as goal

pub returns-in_default-clause-sorted : goal.returns-in_default-clause-sorted
returns-in_default-clause-sorted g c =
    first_unsorted c.args.header c.args.bytes.now c.requires.read c.requires.strings c.loop-i.i
    c.loop-i.invariant.sorted (omega arith)
    (rw (← c.loop-i.invariant.current, ← c.rest_in-next.ensures)
    (λ less. c.in_default.not-Less (c.compare_originals.ensures ∙ less)))
