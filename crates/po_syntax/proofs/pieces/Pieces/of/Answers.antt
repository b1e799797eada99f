use Rattle.po_syntax.proofs.Prelude.{arith, rules, without_byte_order_mark, ◌≡◌}
use Rattle.po_syntax.proofs.Utf8Lines.{text_of_clean_lines}
use Rattle.po_syntax.proofs.pieces.Pieces.of.Goals as goal

pub returns-clause-found : goal.returns-clause-found
returns-clause-found c = λ items h.
    let text = c.args.text.now in
    let found : c.unwrap_or-rest.result.now ≡ without_byte_order_mark text = search rules in
    let whole = text_of_clean_lines text (rw found at h.0) in
    record {
      small = omega (arith, c.if-text-gt-MAX_LEN.false);
      utf8 = whole.utf8;
      no_nul = whole.no_nul;
      lines = rw found at h.1;
    }
