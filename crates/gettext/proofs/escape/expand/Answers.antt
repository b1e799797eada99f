use Rattle.gettext.proofs.Prelude.{arith, length, or-true, sym, take_rest, ◌<◌, ◌∙◌}
use Rattle.gettext.proofs.Escapes.{end-bytes, end-newline, given_bytes-escape-is, given_bytes-stays, more-newline, none-bytes, some-bytes}
use Rattle.gettext.proofs.escape.expand.Goals as goal

pub returns-then-plain-rest-clause-bytes : goal.returns-then-plain-rest-clause-bytes
returns-then-plain-rest-clause-bytes c =
    c.in_ok-extend_from_slice.ensures.items
    ∙ end-bytes _ c.loop-bytes.rest.now _ c.len_before-plain.result c.loop-bytes.invariant.bytes
    c.len_before-plain.ensures.index c.if-plain-rest.true

pub returns-then-plain-rest-clause-no_newline : goal.returns-then-plain-rest-clause-no_newline
returns-then-plain-rest-clause-no_newline c =
    end-newline _ _ c.loop-bytes.rest.now c.len_before-plain.result c.loop-bytes.invariant.newline
    c.len_before-plain.ensures.index c.if-plain-rest.true

pub loop-bytes-preserved-in_default : goal.loop-bytes-preserved-in_default
loop-bytes-preserved-in_default c =
    let rest = c.loop-bytes.rest.now in
    let index = c.len_before-plain.ensures.index in
    let short : c.len_before-plain.result < length rest =
    omega (arith, c.len_before-plain.ensures.bound, c.if-plain-rest.false) in
    let given = given_bytes-stays _ (simp take_rest at (sym c.escape_after.ensures.escape ∙ c.in_default.is)) in
    record {
      bytes = rw (c.in_ok-push.ensures.items, c.in_ok-extend_from_slice.ensures.items)
          (simp take_rest (some-bytes _ rest _ _ _ _ c.loop-bytes.invariant.bytes index short given));
      newline = simp take_rest (more-newline _ _ rest _ _ _ c.loop-bytes.invariant.newline index short given);
    }

pub loop-bytes-preserved-in-Continue-branch-4 : goal.loop-bytes-preserved-in-Continue-branch-4
loop-bytes-preserved-in-Continue-branch-4 c =
    let rest = c.loop-bytes.rest.now in
    let index = c.len_before-plain.ensures.index in
    let short : c.len_before-plain.result < length rest =
    omega (arith, c.len_before-plain.ensures.bound, c.if-plain-rest.false) in
    let given = given_bytes-escape-is _ c.in-Some.escape
    (simp take_rest at (sym c.escape_after.ensures.escape ∙ c.in-Some.is)) c.in-Some-byte.is in record {
      bytes = rw (c.in_ok-push-in-Some-byte.ensures.items, c.in_ok-extend_from_slice.ensures.items)
          (simp take_rest (some-bytes _ rest _ _ _ _ c.loop-bytes.invariant.bytes index short given));
      newline = simp take_rest (more-newline _ _ rest _ _ _ c.loop-bytes.invariant.newline index short given);
    }

pub loop-bytes-preserved : goal.loop-bytes-preserved
loop-bytes-preserved c =
    let rest = c.loop-bytes.rest.now in
    let index = c.len_before-plain.ensures.index in
    let short : c.len_before-plain.result < length rest =
    omega (arith, c.len_before-plain.ensures.bound, c.if-plain-rest.false) in
    let given = given_bytes-escape-is _ c.in-Some.escape
    (simp take_rest at (sym c.escape_after.ensures.escape ∙ c.in-Some.is)) c.in-None.is in record {
      bytes = rw c.in_ok-extend_from_slice.ensures.items
          (simp take_rest (none-bytes _ rest _ _ _ c.loop-bytes.invariant.bytes index short given));
      newline = sym (or-true _) ∙ more-newline _ _ rest _ _ _ c.loop-bytes.invariant.newline index short given;
    }
