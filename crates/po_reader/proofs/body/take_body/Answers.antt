use Rattle.po_reader.proofs.Prelude.{List, MsgId, Row, TextEntry, [], ap, append_assoc, arith, context_length, head_bytes, key_bytes, length, length-append, no_lines, own_bytes, passed_on, refl, with_context, with_kept_head, with_keyword, with_own, with_text, ℕ, ◌++◌, ◌-◌, ◌∙◌, ◌∷◌, ◌≡◌}
use Rattle.po_reader.proofs.EntryTexts.{context_len, key_laid, own_laid, part_len}
use Rattle.po_reader.proofs.ReaderSteps.{fails_from, id_wanted}
use Rattle.po_reader.proofs.body.take_body.Goals as goal

pub returns-in_err-line-clause-fault : goal.returns-in_err-line-clause-fault
returns-in_err-line-clause-fault c =
    let context = c.in_ok-obsolete.ensures.found in
    let first : TextEntry = with_context (no_lines c.in_ok-obsolete.obsolete) context.0 in
    passed_on c.from_residual-in_err-line.result _ c.from_residual-in_err-line.ensures.1 (λ read above.
    fails_from (context.2 read above) (c.in_err-line.ensures.fault (with_own read first) refl))

pub returns-in_err-has_plural-clause-fault : goal.returns-in_err-has_plural-clause-fault
returns-in_err-has_plural-clause-fault c =
    let context = c.in_ok-obsolete.ensures.found in
    let id = c.in_ok-line.ensures.found in
    let first : TextEntry = with_context (no_lines c.in_ok-obsolete.obsolete) context.0 in
    let named = with_text MsgId id.0 (with_keyword MsgId c.in_ok-line.line first) in
    passed_on c.from_residual-in_err-has_plural.result _ c.from_residual-in_err-has_plural.ensures.1 (λ read above.
    fails_from (context.2 read above
    ∙ rw (id_wanted c.in_ok-line.field-0-0 c.in_ok-line.ensures.wanted) at (id.2 (with_own read first) refl))
    (c.in_err-has_plural.ensures.fault (with_own read named) refl))

pub returns-clause-found : goal.returns-clause-found
returns-clause-found c =
    let context = c.in_ok-obsolete.ensures.found in
    let id = c.in_ok-line.ensures.found in
    let translation = c.in_ok-has_plural.ensures.found in
    let before = c.args.drafts.now.bytes.items in
    let first : TextEntry = with_context (no_lines c.in_ok-obsolete.obsolete) context.0 in
    let named : TextEntry = with_text MsgId id.0 (with_keyword MsgId c.in_ok-line.line first) in
    let own : TextEntry = record named { plural = translation.0; forms = translation.1 } in
    let key_is = key_laid before _ _ context.0 id.0 context.1 id.1 in
    let own_is = own_laid before _ _ own key_is translation.3 in
    let mid = c.take_translation.new.out in
    let start : c.len-start.result ≡ length before = omega (arith, c.len-start.ensures, c.args.drafts.now.bytes.ok.0) in
    let context_is : c.len.result - c.len-start.result ≡ context_length context.0 =
    omega (
      arith,
      c.len.ensures,
      c.take_context.new.out.ok.0,
      start,
      part_len before _ _ context.1,
      context_len context.0,
    ) in
    let key_len : c.len-2.result - c.len-start.result ≡ length (key_bytes context.0 id.0) =
    omega (arith, c.len-2.ensures, c.take_keyword_text.new.out.ok.0, start, part_len before _ _ key_is) in
    let own_len : c.len-3.result - c.len-start.result ≡ length (own_bytes own) =
    omega (arith, c.len-3.ensures, mid.ok.0, start, part_len before _ _ own_is) in (
      own,
      λ all comment_texts previous holds.
          let entry : TextEntry = with_kept_head all comment_texts previous own in
          let laid = c.in_ok-lay_out.ensures.laid all comment_texts previous own holds in
          let head_len : c.len-4.result - c.len-start.result - (c.len-3.result - c.len-start.result)
          ≡ length (head_bytes entry) =
          omega (
            arith,
            c.len-4.ensures,
            c.lay_out.new.bytes.ok.0,
            c.len-3.ensures,
            mid.ok.0,
            start,
            ap length own_is,
            length-append before (own_bytes own),
            part_len mid.items _ (head_bytes entry) laid,
          ) in
          record {
            bytes = laid ∙ ap (λ (l : List ℕ). l ++ head_bytes entry) own_is
                ∙ append_assoc before (own_bytes own) (head_bytes entry);
            row = c.in_ok-push.ensures.items
                ∙ ap (λ (r : Row). c.args.drafts.now.rows.items ++ r ∷ [])
                (rw (head_len, own_len, key_len, context_is, start, translation.2, holds.head_comments.fuzzy) refl);
          },
      λ read above. context.2 read above
          ∙ rw (id_wanted c.in_ok-line.field-0-0 c.in_ok-line.ensures.wanted) at (id.2 (with_own read first) refl)
          ∙ translation.4 (with_own read named) refl,
    )
