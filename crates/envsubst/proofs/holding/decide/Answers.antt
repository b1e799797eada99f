use Rattle.envsubst.proofs.Prelude.{after_dollar, ap, arith, length, ne_eqb, nil-from_length, reference_after, some-from_length, sym, ◌++◌, ◌∙◌, ◌∷◌}
use Rattle.envsubst.proofs.References.{begun-more, begun-undecided, brace-undecided, letter-name_byte, name_prefix-stop, not-begun, not-closed, not-short}
use Rattle.envsubst.proofs.Substitution.{one-most, out-copied, out-held, out-named, out-unnamed}
use Rattle.envsubst.proofs.holding.decide.Goals as goal

pub returns-then-is_letter : goal.returns-then-is_letter
returns-then-is_letter c =
    let name = c.begun-is_braced.result.1.now in
    let none = nil-from_length name (sym c.if-is_empty.ensures) in
    let letter = sym c.if-is_letter.ensures in
    out-held c.begun-is_braced.result.0 _ name _ c.begun-is_braced.ensures.bytes
    (begun-undecided c.begun-is_braced.result.0 _
    (begun-more name c.args.next c.begun-is_braced.ensures.name (letter-name_byte _ letter) (λ _. letter)
    (omega (arith, ap length none))))

pub returns-then-not-is_braced : goal.returns-then-not-is_braced
returns-then-not-is_braced c =
    let name = c.begun-is_braced.result.1.now in
    out-held c.begun-is_braced.result.0 _ name _ c.begun-is_braced.ensures.bytes
    (brace-undecided _ _ _ (nil-from_length name (sym c.if-is_empty.ensures)) c.if-next-eq123.true
    c.if-not-is_braced.true)

pub returns-else-next-eq123 : goal.returns-else-next-eq123
returns-else-next-eq123 c = (
  omega arith,
  out-copied _ c.begun-is_braced.result.0 _ c.begun-is_braced.result.1.now _ c.begun-is_braced.ensures.bytes
      c.begun-is_braced.ensures.name
      (λ rest. not-begun _ _ _ rest (nil-from_length c.begun-is_braced.result.1.now (sym c.if-is_empty.ensures))
      (sym c.if-is_letter.ensures) c.else-next-eq123.either),
)

pub returns-then-name-lt-LONGEST_NAME : goal.returns-then-name-lt-LONGEST_NAME
returns-then-name-lt-LONGEST_NAME c =
    let name = c.begun-is_braced.result.1.now in
    out-held c.begun-is_braced.result.0 _ name _ c.begun-is_braced.ensures.bytes
    (begun-undecided c.begun-is_braced.result.0 _
    (begun-more name c.args.next c.begun-is_braced.ensures.name (sym c.if-is_name_byte.ensures)
    (λ none. absurd (some-from_length name (sym c.if-is_empty.ensures) none)) c.if-name-lt-LONGEST_NAME.true))

pub returns-else-name-lt-LONGEST_NAME : goal.returns-else-name-lt-LONGEST_NAME
returns-else-name-lt-LONGEST_NAME c = (
  omega arith,
  out-copied _ c.begun-is_braced.result.0 _ c.begun-is_braced.result.1.now _ c.begun-is_braced.ensures.bytes
      c.begun-is_braced.ensures.name
      (λ rest. not-short _ _ _ rest c.begun-is_braced.ensures.name (some-from_length _ (sym c.if-is_empty.ensures))
      (sym c.if-is_name_byte.ensures) c.if-name-lt-LONGEST_NAME.false),
)

pub returns-then-next-ne125 : goal.returns-then-next-ne125
returns-then-next-ne125 c =
    let name = c.begun-is_braced.result.1.now in (
      omega arith,
      out-copied _ c.begun-is_braced.result.0 _ name _ c.begun-is_braced.ensures.bytes c.begun-is_braced.ensures.name
          (λ rest. ap (λ b. reference_after (after_dollar b (name ++ c.args.next ∷ rest))) c.if-is_braced.true
          ∙ not-closed name (c.args.next ∷ rest) c.begun-is_braced.ensures.name
          (name_prefix-stop _ rest (sym c.if-is_name_byte.ensures)) (ne_eqb _ _ c.if-next-ne125.true)),
    )

pub returns-in-Some : goal.returns-in-Some
returns-in-Some c =
    rw c.from.ensures (
      one-most c.begun-is_braced.result.0,
      out-named _ c.begun-is_braced.result.0 _ c.begun-is_braced.result.1.now _ _ c.begun-is_braced.ensures.bytes
          c.begun-is_braced.ensures.name (some-from_length _ (sym c.if-is_empty.ensures))
          (sym c.if-is_name_byte.ensures) c.else-is_braced.either (sym c.in-Some.ensures),
    )

pub returns-in-None : goal.returns-in-None
returns-in-None c = (
  omega arith,
  out-unnamed _ c.begun-is_braced.result.0 _ c.begun-is_braced.result.1.now _ c.begun-is_braced.ensures.bytes
      c.begun-is_braced.ensures.name (some-from_length _ (sym c.if-is_empty.ensures))
      (sym c.if-is_name_byte.ensures) c.else-is_braced.either (sym c.in-None.ensures),
)
