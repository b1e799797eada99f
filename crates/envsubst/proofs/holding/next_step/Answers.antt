use Rattle.envsubst.proofs.Prelude.{[], ap, arith, false, is_undecided, nat_tests, nil-from_length, refl, sym, ◌∙◌}
use Rattle.envsubst.proofs.References.{begun-undecided}
use Rattle.envsubst.proofs.Pieces.{begun-out, dollar-first, out-step, plain-out}
use Rattle.envsubst.proofs.holding.next_step.Goals as goal

pub returns-then-not-is_empty : goal.returns-then-not-is_empty
returns-then-not-is_empty c =
    out-step _ _ _ c.decide.result (grind (arith, nat_tests, c.if-not-is_empty.ensures)) c.requires.some
    c.decide.ensures

pub returns-in-Write : goal.returns-in-Write
returns-in-Write c =
    let none = nil-from_length c.args.held.now (sym c.if-not-is_empty.ensures) in
    let within = c.in-Some.ensures.bound in
    let fits = c.in-Write.ensures.0 in (
      omega (arith, within, fits),
      omega (arith, c.in-Some.ensures.some),
      rw none
          (begun-out _ c.args.piece.now c.in-Write.text.now c.in-Some.len c.in-Write.taken within fits
          c.in-Write.ensures.1),
    )

pub returns-in-0 : goal.returns-in-0
returns-in-0 c =
    let none = nil-from_length c.args.held.now (sym c.if-not-is_empty.ensures) in
    rw none
    (ap is_undecided (dollar-first c.len_before.result c.args.piece.now c.len_before.ensures.index c.in-0.is
    c.requires.some) ∙ begun-undecided false [] refl)

pub returns-in_default-len_before : goal.returns-in_default-len_before
returns-in_default-len_before c =
    let none = nil-from_length c.args.held.now (sym c.if-not-is_empty.ensures) in (
      c.len_before.ensures.bound,
      omega (arith, c.in_default-len_before),
      rw none (plain-out _ c.len_before.result c.args.piece.now c.len_before.ensures.index),
    )
