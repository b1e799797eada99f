use Rattle.po_syntax.proofs.Prelude.{IsUtf8, IsUtf8-append, SpellsString, StringFault, [], after_escape, and_parts, ap, append-nil, append_assoc, arith, err_from_is_err_and, escape, in_escape, length, length-append, ltb-true, subst, sym, ◌++◌, ◌∙◌, ◌∷◌}
use Rattle.po_syntax.proofs.Escapes.{escape_shorter}
use Rattle.po_syntax.proofs.Utf8Lines.{before-utf8, escape_rest-utf8, rest-utf8, spelt_more}
use Rattle.po_syntax.proofs.StringsRead.{backslash, closes, escape_is, stops_at_end}
use Rattle.po_syntax.proofs.quoted_string.add_bytes.Goals as goal

pub returns-in_default-clause-fault : goal.returns-in_default-clause-fault
returns-in_default-clause-fault c =
    λ _. c.loop-mark.invariant.3 _ (c.split_plain.ensures.stops _ (stops_at_end _ c.in_default.ensures.cases))

pub returns-then-mark-eq34-clause-found : goal.returns-then-mark-eq34-clause-found
returns-then-mark-eq34-clause-found c =
    let plain = c.split_plain.result.0.now in
    let ends = closes _ _ _ c.in-Some.ensures.cases.0 c.if-mark-eq34.true in (
      c.loop-mark.invariant.0 ++ plain,
      c.loop-mark.invariant.2 _ _ (rw append-nil at (c.split_plain.ensures.spelt [] _ ends)),
      rw (c.in_ok-extend_from_slice.ensures.items, c.loop-mark.invariant.1, append_assoc),
      λ ascii utf8. IsUtf8-append c.loop-mark.invariant.0 plain (c.loop-mark.invariant.5 ascii utf8)
          (before-utf8 plain c.in-Some.after.now c.in-Some.mark.now (omega (arith, c.if-mark-eq34.true))
          (subst IsUtf8 (sym c.split_plain.ensures.parts ∙ ap (λ end. plain ++ end) c.in-Some.ensures.cases.0)
          (c.loop-mark.invariant.4 utf8))),
    )

pub returns-in_err-byte-clause-fault : goal.returns-in_err-byte-clause-fault
returns-in_err-byte-clause-fault c =
    let p = err_from_is_err_and c.from_residual-in_err-byte.result c.from_residual-in_err-byte.ensures.1 in
    let begins = backslash _ _ _ c.in-Some.ensures.cases.0 c.split_plain.ensures.special c.if-mark-eq34.false in
    rw (p.1, p.2) (λ _. c.loop-mark.invariant.3 _
    (c.split_plain.ensures.stops _
    (subst (λ t. StringFault t c.in_err-byte.field-0.0) begins
    (in_escape (escape_is _ c.in_err-byte.ensures)))))

pub loop-mark-smaller : goal.loop-mark-smaller
loop-mark-smaller c = omega (
  arith,
  ap length c.split_plain.ensures.parts,
  length-append c.split_plain.result.0.now c.split_plain.result.1.now,
  c.in-Some.ensures.cases,
  escape_shorter (escape_is _ c.in_ok-byte.ensures),
)

pub loop-mark-preserved : goal.loop-mark-preserved
loop-mark-preserved c =
    let plain = c.split_plain.result.0.now in
    let byte = c.in_ok-byte.byte ∷ [] in
    let begins = backslash _ _ _ c.in-Some.ensures.cases.0 c.split_plain.ensures.special c.if-mark-eq34.false in
    let whole : IsUtf8 c.loop-mark.rest.now → IsUtf8 (plain ++ 92 ∷ c.in-Some.after.now) =
    subst IsUtf8 (sym c.split_plain.ensures.parts ∙ ap (λ end. plain ++ end) (sym begins)) in (
      c.loop-mark.invariant.0 ++ (plain ++ byte),
      rw (c.in_ok-push.ensures.items, c.in_ok-extend_from_slice.ensures.items, c.loop-mark.invariant.1)
          (simp append_assoc),
      λ more end h. simp append_assoc
          (c.loop-mark.invariant.2 _ _
          (c.split_plain.ensures.spelt (c.in_ok-byte.byte ∷ more) _
          (subst (λ t. SpellsString t (c.in_ok-byte.byte ∷ more) end) begins
          (escape (escape_is _ c.in_ok-byte.ensures) h)))),
      λ fault h. c.loop-mark.invariant.3 _
          (c.split_plain.ensures.stops _
          (subst (λ t. StringFault t fault) begins (after_escape (escape_is _ c.in_ok-byte.ensures) h))),
      λ utf8. escape_rest-utf8 (escape_is _ c.in_ok-byte.ensures)
          (rest-utf8 plain c.in-Some.after.now 92 (omega arith) (whole (c.loop-mark.invariant.4 utf8))),
      λ ascii utf8. spelt_more c.loop-mark.invariant.0 plain c.in_ok-byte.byte
          (c.loop-mark.invariant.5 (and_parts _ _ ascii).0 utf8)
          (before-utf8 plain c.in-Some.after.now 92 (omega arith) (whole (c.loop-mark.invariant.4 utf8)))
          (ltb-true c.in_ok-byte.byte 128 (and_parts _ _ ascii).1),
    )
