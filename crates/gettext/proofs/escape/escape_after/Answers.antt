use Rattle.gettext.proofs.Prelude.{arith, is_octal, nil-from_length, octal_prefix, some-from_length, sym, take, ◌∙◌, ◌≡◌}
use Rattle.std.proofs.lemmas.List.{length-take-le}
use Rattle.gettext.proofs.Escapes.{escape-letter, escape-none, escape-octal, octal_prefix-read}
use Rattle.gettext.proofs.escape.escape_after.Goals.{else-loop-size-test, then-loop-size-test+else-is_octal}
use Rattle.gettext.proofs.escape.escape_after.Goals as goal

pub returns-then-is_empty-clause-escape : goal.returns-then-is_empty-clause-escape
returns-then-is_empty-clause-escape c =
    sym (escape-none c.args.after.now (nil-from_length c.args.after.now (sym c.if-is_empty.ensures)))

pub returns-then-size-eq0-clause-escape : goal.returns-then-size-eq0-clause-escape
returns-then-size-eq0-clause-escape c =
    let after = c.args.after.now in
    let inv = c.loop-size.invariant in
    let run : take c.loop-size.size (take c.min.result after) ≡ octal_prefix after =
    octal_prefix-read after c.min.result c.loop-size.size c.min.ensures inv.within inv.octal
    (λ more. elim c.loop-size-test.branch [
      | then-loop-size-test+else-is_octal w ↦ sym w.is_octal.ensures ∙ w.if-is_octal.false
      | else-loop-size-test w ↦ absurd (omega (arith, more, w.loop-size-test.false))
    ]) in
    c.letter_escape.ensures.escape
    ∙ sym (escape-letter after (some-from_length after (sym c.if-is_empty.ensures))
    (rw (c.if-size-eq0.true) at (sym run)))

pub returns-clause-escape : goal.returns-clause-escape
returns-clause-escape c =
    let after = c.args.after.now in
    let inv = c.loop-size.invariant in
    let run : take c.loop-size.size (take c.min.result after) ≡ octal_prefix after =
    octal_prefix-read after c.min.result c.loop-size.size c.min.ensures inv.within inv.octal
    (λ more. elim c.loop-size-test.branch [
      | then-loop-size-test+else-is_octal w ↦ sym w.is_octal.ensures ∙ w.if-is_octal.false
      | else-loop-size-test w ↦ absurd (omega (arith, more, w.loop-size-test.false))
    ]) in
    sym (escape-octal after c.loop-size.value c.loop-size.size _ run inv.value
    (length-take-le c.loop-size.size (take c.min.result after) inv.within) c.if-size-eq0.false)
