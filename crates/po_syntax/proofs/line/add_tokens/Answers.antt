use Rattle.po_syntax.proofs.Prelude.{Err, Ok, SpellsString, Str, Word, [], append-nil, append_assoc, arith, err_from_is_err_and, map_push, refl, spelt_bytes, sym, ◌++◌, ◌∙◌, ◌∷◌}
use Rattle.po_syntax.proofs.StringsRead.{one_more}
use Rattle.po_syntax.proofs.Escapes.{string_shorter}
use Rattle.po_syntax.proofs.OneLine.{tokens_at}
use Rattle.po_syntax.proofs.Keywords.{keyword-shorter, line_over, quote-shorter, quote_first, word_first}
use Rattle.po_syntax.proofs.Utf8Lines.{inside-utf8, string_rest-utf8, token_rest-utf8}
use Rattle.po_syntax.proofs.line.add_tokens.Goals as goal

pub returns-in_default-clause-found : goal.returns-in_default-clause-found
returns-in_default-clause-found c =
    let ends = line_over c.loop-first.rest.now (rw c.skip_blanks-text.ensures at c.in_default.ensures.cases) in (
      c.loop-first.invariant.0,
      rw append-nil at (c.loop-first.invariant.2 [] (tokens_at c.args.marks c.args.line _ (Ok []) ends refl)),
      c.loop-first.invariant.1,
    )

pub returns-in_err-bytes-clause-fault : goal.returns-in_err-bytes-clause-fault
returns-in_err-bytes-clause-fault c =
    let opens = quote_first c.loop-first.rest.now c.in-Some.inside.now c.in-Some.first.now
    (sym c.skip_blanks-text.ensures ∙ c.in-Some.ensures.cases.0) c.if-first-eq34.true in
    let p = err_from_is_err_and c.from_residual.result c.from_residual.ensures.1 in
    rw (p.1, p.2) (λ reported.
    c.loop-first.invariant.3 _
    (tokens_at c.args.marks c.args.line _ (Err _) opens (Err _, c.in_err-bytes.ensures.fault reported, refl)))

pub loop-first-smaller-then-first-eq34 : goal.loop-first-smaller-then-first-eq34
loop-first-smaller-then-first-eq34 c =
    let opens = quote_first c.loop-first.rest.now c.in-Some.inside.now c.in-Some.first.now
    (sym c.skip_blanks-text.ensures ∙ c.in-Some.ensures.cases.0) c.if-first-eq34.true in
    let quoted : SpellsString c.in-Some.inside.now (spelt_bytes c.in_ok-bytes.bytes) c.in_ok-bytes.after.now =
    c.in_ok-bytes.ensures.found in
    omega (arith, quote-shorter c.loop-first.rest.now opens, string_shorter quoted)

pub loop-first-preserved-then-first-eq34 : goal.loop-first-preserved-then-first-eq34
loop-first-preserved-then-first-eq34 c =
    let opens = quote_first c.loop-first.rest.now c.in-Some.inside.now c.in-Some.first.now
    (sym c.skip_blanks-text.ensures ∙ c.in-Some.ensures.cases.0) c.if-first-eq34.true in
    let quoted : SpellsString c.in-Some.inside.now (spelt_bytes c.in_ok-bytes.bytes) c.in_ok-bytes.after.now =
    c.in_ok-bytes.ensures.found in (
      c.loop-first.invariant.0 ++ Str (spelt_bytes c.in_ok-bytes.bytes) c.args.marks c.args.line ∷ [],
      rw (c.in_ok-push.ensures.items, map_push, c.loop-first.invariant.1, append_assoc),
      λ more h. rw append_assoc
          (c.loop-first.invariant.2 _
          (tokens_at c.args.marks c.args.line _ (Ok _) opens (Ok (_, _), quoted, (Ok more, h, refl)))),
      λ fault h. c.loop-first.invariant.3 _
          (tokens_at c.args.marks c.args.line _ (Err _) opens (Ok (_, _), quoted, (Err fault, h, refl))),
      λ utf8. string_rest-utf8 quoted (inside-utf8 c.loop-first.rest.now opens (c.loop-first.invariant.4 utf8)),
      one_more _ _ _ _ _ c.loop-first.invariant.5 c.in_ok-push.ensures.items (λ utf8.
          c.in_ok-bytes.ensures.lent
          (inside-utf8 c.loop-first.rest.now opens (c.loop-first.invariant.4 utf8))),
    )

pub returns-in_err-word-clause-fault : goal.returns-in_err-word-clause-fault
returns-in_err-word-clause-fault c =
    let wrong = word_first c.loop-first.rest.now c.in-Some.inside.now c.in-Some.first.now
    (sym c.skip_blanks-text.ensures ∙ c.in-Some.ensures.cases.0) c.if-first-eq34.false
    ∙ rw c.skip_blanks-text.ensures at c.in_err-word.ensures in
    let p = err_from_is_err_and c.from_residual-in_err-word.result c.from_residual-in_err-word.ensures.1 in
    rw (p.1, p.2) (λ _. c.loop-first.invariant.3 _ (tokens_at c.args.marks c.args.line _ (Err _) wrong refl))

pub loop-first-smaller : goal.loop-first-smaller
loop-first-smaller c =
    let key = word_first c.loop-first.rest.now c.in-Some.inside.now c.in-Some.first.now
    (sym c.skip_blanks-text.ensures ∙ c.in-Some.ensures.cases.0) c.if-first-eq34.false
    ∙ rw c.skip_blanks-text.ensures at c.in_ok-word.ensures in
    keyword-shorter c.loop-first.rest.now key

pub loop-first-preserved : goal.loop-first-preserved
loop-first-preserved c =
    let key = word_first c.loop-first.rest.now c.in-Some.inside.now c.in-Some.first.now
    (sym c.skip_blanks-text.ensures ∙ c.in-Some.ensures.cases.0) c.if-first-eq34.false
    ∙ rw c.skip_blanks-text.ensures at c.in_ok-word.ensures in (
      c.loop-first.invariant.0 ++ Word c.in_ok-word.word c.args.marks c.args.line ∷ [],
      rw (c.in_ok-push-2.ensures.items, map_push, c.loop-first.invariant.1, append_assoc),
      λ more h. rw append_assoc
          (c.loop-first.invariant.2 _ (tokens_at c.args.marks c.args.line _ (Ok _) key (Ok more, h, refl))),
      λ fault h. c.loop-first.invariant.3 _ (tokens_at c.args.marks c.args.line _ (Err _) key (Err fault, h, refl)),
      λ utf8. token_rest-utf8 c.loop-first.rest.now key (c.loop-first.invariant.4 utf8),
      one_more _ _ _ _ _ c.loop-first.invariant.5 c.in_ok-push-2.ensures.items (λ utf8. tt),
    )
