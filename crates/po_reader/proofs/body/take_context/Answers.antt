use Rattle.po_reader.proofs.Prelude.{List, MsgCtxt, Some, [], ap, append_assoc, no_lines, passed_on, with_own, ℕ, ◌++◌, ◌∙◌, ◌∷◌}
use Rattle.po_reader.proofs.ReaderSteps.{context_begins, fails_from}
use Rattle.po_reader.proofs.body.take_context.Goals as goal

pub returns-in_err-take_strings-clause-fault : goal.returns-in_err-take_strings-clause-fault
returns-in_err-take_strings-clause-fault c =
    passed_on c.from_residual.result _ c.from_residual.ensures.1 (λ read above.
    fails_from (context_begins _ _ _ _ _ (rw c.in-MsgCtxt.is at c.in-Some.ensures) c.requires read above)
    (rw (c.own.ensures, c.advance.ensures.rest) at
    (c.in_err-take_strings.ensures.fault (with_own read (no_lines c.in-Some.marks.obsolete)) MsgCtxt)))

pub returns-in_ok-push-clause-found : goal.returns-in_ok-push-clause-found
returns-in_ok-push-clause-found c =
    let found = c.in_ok-take_strings.ensures.found in (
      Some found.0,
      c.in_ok-push.ensures.items ∙ ap (λ (l : List ℕ). l ++ 4 ∷ []) found.1
          ∙ append_assoc c.args.out.now.items found.0 (4 ∷ []),
      λ read above.
          context_begins _ _ _ _ _ (rw c.in-MsgCtxt.is at c.in-Some.ensures) c.requires read above
          ∙ rw (c.own.ensures, c.advance.ensures.rest) at
          (found.2 (with_own read (no_lines c.in-Some.marks.obsolete)) MsgCtxt),
    )
