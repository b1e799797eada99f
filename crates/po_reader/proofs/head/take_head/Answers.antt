use Rattle.po_reader.proofs.Prelude.{Between, CommentText, In, InHead, List, PreviousText, [], after_head, ap, arith, comes, false, le-ltb, lt-ltb, passed_on, refl, sym, ℕ, ◌++◌, ◌∙◌, ◌∷◌, ◌≡◌}
use Rattle.po_reader.proofs.CommentFields.{holds_previous}
use Rattle.po_reader.proofs.ReaderSteps.{fails_from, first_refused, head_refused, none_ends, out_of_order, own_ends, previous_closed, taken}
use Rattle.po_reader.proofs.head.take_head.Goals as goal

pub loop-kind-init : goal.loop-kind-init
loop-kind-init c = record {
  reads = λ before. (before, [], λ holds. holds, λ entries. refl, λ none. refl);
  fewer = omega arith;
}

pub loop-kind-preserved-in-Continue-1 : goal.loop-kind-preserved-in-Continue-1
loop-kind-preserved-in-Continue-1 c =
    let first = rw c.in-Some-Comment.field-0-is at c.in-Some-Comment.ensures in
    let text : CommentText = record { kind = c.in-Some-Comment.kind; text = c.in-Some-Comment.text.now } in
    record {
      reads = λ before. let reads = c.loop-kind.invariant.reads before in (
        reads.0 ++ text ∷ [],
        reads.1,
        λ holds. record {
          head_comments = c.in_ok-add_comment-in-Some-Comment.ensures.comment_texts reads.0
              (reads.2 holds).head_comments;
          texts = c.in_ok-add_comment-in-Some-Comment.ensures.previous ∙ (reads.2 holds).texts;
        },
        λ entries. rw c.advance.ensures.rest (reads.3 entries
            ∙ taken _ _ _ _ first (Between (InHead (after_head entries reads.0 reads.1) c.loop-kind.above)) _ refl),
        reads.4,
      );
      fewer = omega (arith, c.advance.ensures.fewer, c.loop-kind.invariant.fewer);
    }

pub returns-then-not-marks-clause-fault : goal.returns-then-not-marks-clause-fault
returns-then-not-marks-clause-fault c = λ entries before.
    let reads = c.loop-kind.invariant.reads before in
    let first = rw c.in-Some-Word.field-0-is at c.in-Some-Word.ensures in
    out_of_order _ (reads.3 entries) c.refusal.ensures (first_refused _ _ _ _ _ first
    (Between (InHead (after_head entries reads.0 reads.1) c.loop-kind.above))
    (rw (c.if-not-marks.true, sym c.begins_body.ensures ∙ c.if-begins_body.false) refl))

pub returns-then-rank-above-clause-fault : goal.returns-then-rank-above-clause-fault
returns-then-rank-above-clause-fault c = λ entries before.
    let reads = c.loop-kind.invariant.reads before in
    let first = rw c.in-Some-Word.field-0-is at c.in-Some-Word.ensures in
    out_of_order _ (reads.3 entries) c.refusal-then-rank-above.ensures (first_refused _ _ _ _ _ first
    (Between (InHead (after_head entries reads.0 reads.1) c.loop-kind.above))
    (rw (c.if-not-marks.false, le-ltb _ _ (rw c.rank-rank.ensures at c.if-rank-above.true)) refl))

pub returns-in_err-take_strings-in-Some-Word-clause-fault : goal.returns-in_err-take_strings-in-Some-Word-clause-fault
returns-in_err-take_strings-in-Some-Word-clause-fault c =
    let first = rw c.in-Some-Word.field-0-is at c.in-Some-Word.ensures in
    let above = rw c.rank-rank.ensures at c.if-rank-above.false in
    passed_on c.from_residual-in_err-take_strings-in-Some-Word.result _
    c.from_residual-in_err-take_strings-in-Some-Word.ensures.1
    (λ entries before.
    let reads = c.loop-kind.invariant.reads before in
    let read = after_head entries reads.0 reads.1 in
    fails_from (reads.3 entries ∙ taken _ _ _ _ first (Between (InHead read c.loop-kind.above))
    (In read c.in-Some-Word.keyword c.in-Some-Word.marks false [])
    (rw (c.if-not-marks.false, lt-ltb _ _ above) refl))
    (rw c.advance-in-Some-Word.ensures.rest at
    (c.in_err-take_strings-in-Some-Word.ensures.fault read c.in-Some-Word.keyword)))

pub loop-kind-preserved : goal.loop-kind-preserved
loop-kind-preserved c =
    let first = rw c.in-Some-Word.field-0-is at c.in-Some-Word.ensures in
    let above = rw c.rank-rank.ensures at c.if-rank-above.false in
    let text : PreviousText =
    record { keyword = c.in-Some-Word.keyword; text = c.take_strings.new.out.items } in
    let found = c.in_ok-take_strings-in-Some-Word.ensures.found in
    let is : c.take_strings.new.out.items ≡ found.0 =
    found.1 ∙ ap (λ (l : List ℕ). l ++ found.0) c.new-text.ensures.items in
    record {
      reads = λ before. let reads = c.loop-kind.invariant.reads before in (
        reads.0,
        reads.1 ++ text ∷ [],
        λ holds. holds_previous c.args.with_comments c.loop-kind.head c.set_previous.new.previous reads.0 reads.1 text
            (reads.2 holds) c.set_previous.ensures,
        λ entries. let read = after_head entries reads.0 reads.1 in
            rw c.rank-rank.ensures
            (reads.3 entries ∙ taken _ _ _ _ first (Between (InHead read c.loop-kind.above))
            (In read c.in-Some-Word.keyword c.in-Some-Word.marks false [])
            (rw (c.if-not-marks.false, lt-ltb _ _ above) refl)
            ∙ rw c.advance-in-Some-Word.ensures.rest at
            (rw (← is) at (found.2 read c.in-Some-Word.keyword))
            ∙ ap (λ gap. comes (Between gap) c.take_strings.new.rest)
            (previous_closed read c.in-Some-Word.keyword c.in-Some-Word.marks
            c.take_strings.new.out.items c.if-not-marks.false)),
        λ none. absurd (omega (arith, above, c.rank-rank.ensures, none)),
      );
      fewer = omega (
        arith,
        c.in_ok-take_strings-in-Some-Word.ensures.fewer,
        c.advance-in-Some-Word.ensures.fewer,
        c.loop-kind.invariant.fewer,
      );
    }

pub returns-in-Some-Str-clause-fault : goal.returns-in-Some-Str-clause-fault
returns-in-Some-Str-clause-fault c = λ entries before.
    let reads = c.loop-kind.invariant.reads before in
    let first = rw c.in-Some-Str.field-0-is at c.in-Some-Str.ensures in
    out_of_order _ (reads.3 entries) c.refusal-in-Some-Str.ensures (first_refused _ _ _ _ _ first
    (Between (InHead (after_head entries reads.0 reads.1) c.loop-kind.above)) refl)

pub returns-then-begins_body-clause-found : goal.returns-then-begins_body-clause-found
returns-then-begins_body-clause-found c = λ before.
    let reads = c.loop-kind.invariant.reads before in
    let first = rw c.in-Some-Word.field-0-is at c.in-Some-Word.ensures in (
      reads.0,
      reads.1,
      c.loop-kind.above,
      reads.2,
      reads.3,
      own_ends _ _ _ _ _ _ first c.if-not-marks.true (sym c.begins_body.ensures ∙ c.if-begins_body.true),
      reads.4,
    )

pub returns-in-None-clause-found : goal.returns-in-None-clause-found
returns-in-None-clause-found c = λ before.
    let reads = c.loop-kind.invariant.reads before in (
      reads.0,
      reads.1,
      c.loop-kind.above,
      reads.2,
      reads.3,
      none_ends _ _ c.in-None.ensures c.if-above-eq0.true,
      reads.4,
    )

pub returns-in-None-2-clause-fault : goal.returns-in-None-2-clause-fault
returns-in-None-2-clause-fault c = λ entries before.
    let reads = c.loop-kind.invariant.reads before in
    out_of_order _ (reads.3 entries) c.refusal-in-None-2.ensures
    (head_refused _ c.loop-kind.above _ (after_head entries reads.0 reads.1) c.in-None-2.ensures c.if-above-eq0.false)
