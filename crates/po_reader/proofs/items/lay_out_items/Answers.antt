use Rattle.po_reader.proofs.Prelude.{Adds, All-head, All-left, All-right, CanLie, HoldsHead, IsFaultOf-weaker, List, Reached, TextEntry, [], after_head, ap, arith, kept_entry, length-map, map, map_push, passed_on, subst, sym, view, views, with_head, ◌++◌, ◌∙◌, ◌∷◌}
use Rattle.std.proofs.Common.{All}
use Rattle.po_reader.proofs.CommentFields.{kept_from}
use Rattle.po_reader.proofs.Pieces.{fault_on, lead_on}
use Rattle.po_reader.proofs.ReaderSteps.{fails_from, head_over, own_lines_begin}
use Rattle.po_reader.proofs.items.lay_out_items.Goals as goal

pub loop-rest-init : goal.loop-rest-init
loop-rest-init c = record {
  reads = λ before apart h.
      rw c.of-rest.ensures
      (h.entries, h.comment_texts, lead_on _ before (views c.args.items.now) h.leads apart, h.holds, h.laid, h.kept);
  fewer = rw c.of-rest.ensures (omega (arith, length-map c.args.items.now view));
}

pub returns-in_err-take_head-clause-fault : goal.returns-in_err-take_head-clause-fault
returns-in_err-take_head-clause-fault c =
    passed_on c.from_residual.result _ c.from_residual.ensures.1 (λ before apart h.
    let reads = c.loop-rest.invariant.reads before apart h in
    IsFaultOf-weaker (fault_on before (views c.args.items.now) h.leads)
    (fails_from reads.2 (c.in_err-take_head.ensures.fault reads.0 reads.1)))

pub returns-then-is_empty-clause-found : goal.returns-then-is_empty-clause-found
returns-then-is_empty-clause-found c = λ before apart h.
    let reads = c.loop-rest.invariant.reads before apart h in
    let head = c.in_ok-take_head.ensures.found reads.1 in
    let over = head_over _ head.2 _ reads.0 head.0 head.1 (rw c.if-is_empty.true at c.is_empty.ensures) head.5 head.6 in
    record {
      entries = reads.0;
      comment_texts = head.0;
      leads = ap (λ (there : Reached). there.stage) (reads.2 ∙ head.4 reads.0 ∙ over.1);
      holds = subst (HoldsHead c.args.with_comments c.take_head.new.head head.0) over.0 (head.3 reads.3);
      laid = reads.4;
      kept = reads.5;
    }

pub take_body-requires-clause-begins : goal.take_body-requires-clause-begins
take_body-requires-clause-begins c =
    let head = c.in_ok-take_head.ensures.found [] in
    own_lines_begin head.2 _ head.5 (rw c.if-is_empty.false at c.is_empty.ensures)

pub returns-in_err-take_body-clause-fault : goal.returns-in_err-take_body-clause-fault
returns-in_err-take_body-clause-fault c =
    passed_on c.from_residual-in_err-take_body.result _ c.from_residual-in_err-take_body.ensures.1 (λ before apart h.
    let reads = c.loop-rest.invariant.reads before apart h in
    let head = c.in_ok-take_head.ensures.found reads.1 in
    IsFaultOf-weaker (fault_on before (views c.args.items.now) h.leads)
    (fails_from (reads.2 ∙ head.4 reads.0)
    (c.in_err-take_body.ensures.fault (after_head reads.0 head.0 head.1) head.2)))

pub loop-rest-preserved : goal.loop-rest-preserved
loop-rest-preserved c =
    let all = c.args.with_comments in
    let body = c.in_ok-take_body.ensures.found in
    record {
      reads = λ before apart h.
          let reads = c.loop-rest.invariant.reads before apart h in
          let head = c.in_ok-take_head.ensures.found reads.1 in
          let first : TextEntry = with_head head.0 head.1 body.0 in
          let kept : List TextEntry = map (kept_entry all) reads.0 in
          let adds = subst (λ (e : TextEntry). Adds e c.loop-rest.drafts c.take_body.new.drafts)
          (kept_from all head.0 head.1 body.0) (body.1 all head.0 head.1 (head.3 reads.3)) in
          let added = c.drafts_are_added.ensures (kept_entry all first) c.loop-rest.drafts c.take_body.new.drafts adds
          reads.4 in (
            reads.0 ++ first ∷ [],
            [],
            reads.2 ∙ head.4 reads.0 ∙ body.2 (after_head reads.0 head.0 head.1) head.2,
            c.clear.ensures all,
            added.0,
            λ can.
                let both = subst (All CanLie) (map_push (kept_entry all) reads.0 first) can in
                let last = All-head CanLie (kept_entry all first) []
                (All-right CanLie kept (kept_entry all first ∷ []) both) in
                added.1 last
                ∙ ap (λ (es : List TextEntry). es ++ kept_entry all first ∷ [])
                (reads.5 (All-left CanLie kept (kept_entry all first ∷ []) both))
                ∙ sym (map_push (kept_entry all) reads.0 first),
          );
      fewer = omega (
        arith,
        c.in_ok-take_head.ensures.fewer,
        c.in_ok-take_body.ensures.fewer,
        c.loop-rest.invariant.fewer,
      );
    }
