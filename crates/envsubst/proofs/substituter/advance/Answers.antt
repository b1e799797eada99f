use Rattle.envsubst.proofs.Prelude.{ap, arith, drop, get_or, is_undecided, on-err, sym, ◌++◌, ◌∙◌}
use Rattle.envsubst.proofs.References.{nothing-undecided, undecided-room}
use Rattle.envsubst.proofs.Pieces.{Stops-out, Stops-seen, first-taken}
use Rattle.envsubst.proofs.substituter.advance.Goals as goal

pub push-requires : goal.push-requires
push-requires g c =
    let held = c.deref.result.now in
    let piece = c.args.piece.now in
    let first = ap (λ l. is_undecided (held ++ l)) (sym (first-taken piece 0 c.requires.some)) in (
      omega arith,
      undecided-room c.args.held.now.items held (get_or piece 0 0) c.deref.ensures.0
          (first ∙ c.in-Hold.ensures),
    )

pub returns-in_err-put_all-in-Write-clause-stops : goal.returns-in_err-put_all-in-Write-clause-stops
returns-in_err-put_all-in-Write-clause-stops g c =
    let piece = c.args.piece.now in
    let stops = Stops-out _ (c.deref.result.now ++ piece)
    (drop c.in-Write.taken piece) c.in-Write.text.now _ _ c.in-Write.ensures.2
    c.in_err-put_all-in-Write.ensures.prefix in
    on-err _ _ (Stops-seen _ c.args.held.now.items c.deref.result.now piece _ _ c.deref.ensures.0 stops)

pub returns-in_ok-put_all-in-Write-clause-undecided : goal.returns-in_ok-put_all-in-Write-clause-undecided
returns-in_ok-put_all-in-Write-clause-undecided g c = ap is_undecided c.clear.ensures ∙ nothing-undecided
