use Rattle.po_reader.proofs.Prelude.{Fault, In, List, ap, append_assoc, begins_string, false, line_at, not-false, not-true, refl, rules, sym, true, ℕ, ◌++◌, ◌∙◌, ◌≡◌}
use Rattle.po_reader.proofs.ReaderSteps.{fails_from, first_refused, no_string, out_of_order, taken, text_ends}
use Rattle.po_reader.proofs.cursor.take_strings.Goals as goal

pub returns-in_default-clause-fault : goal.returns-in_default-clause-fault
returns-in_default-clause-fault c = λ read keyword.
    let reads = c.loop-bytes.invariant.reads in
    out_of_order _ (reads.4 read keyword) c.refusal.ensures
    (no_string _ _ c.in_default.ensures read keyword c.args.marks reads.0 reads.1 reads.3)

pub returns-then-ne-clause-fault : goal.returns-then-ne-clause-fault
returns-then-ne-clause-fault c = λ read keyword.
    let reads = c.loop-bytes.invariant.reads in
    fails_from (reads.4 read keyword)
    (rw c.refusal-then-ne.ensures (record {
      fault = λ other. first_refused _ _ _ _ _ c.in-Some.ensures.1
          (In read keyword c.args.marks reads.0 reads.1)
          (rw (not-true _ (sym c.ne.ensures ∙ c.if-ne.true)) refl)
          ∙ ap (λ fault. Fault fault (line_at c.loop-bytes.rest)) (sym c.stray_string.ensures.fault);
      memory = λ memory. absurd (c.stray_string.ensures.other memory);
    }))

pub returns-then-is_none-clause-found : goal.returns-then-is_none-clause-found
returns-then-is_none-clause-found c =
    let reads = c.loop-bytes.invariant.reads in
    let text = reads.1 ++ c.in-Some.bytes.now in
    let over : begins_string c.advance.new.self.items ≡ false = search rules in (
      text,
      c.in_ok-extend_from_slice.ensures.items ∙ ap (λ (l : List ℕ). l ++ c.in-Some.bytes.now) reads.2
          ∙ append_assoc c.args.out.now.items reads.1 c.in-Some.bytes.now,
      λ read keyword. reads.4 read keyword
          ∙ rw c.advance.ensures.rest (taken _ _ _ _ c.in-Some.ensures.1
          (In read keyword c.args.marks reads.0 reads.1) (In read keyword c.args.marks true text)
          (rw (not-false _ (sym c.ne.ensures ∙ c.if-ne.false)) refl))
          ∙ text_ends _ read keyword c.args.marks text _ over,
    )

pub loop-bytes-preserved : goal.loop-bytes-preserved
loop-bytes-preserved c =
    let reads = c.loop-bytes.invariant.reads in
    let text = reads.1 ++ c.in-Some.bytes.now in
    let more : begins_string c.advance.new.self.items ≡ true = search rules in
    record {
      reads = (
        true,
        text,
        c.in_ok-extend_from_slice.ensures.items ∙ ap (λ (l : List ℕ). l ++ c.in-Some.bytes.now) reads.2
            ∙ append_assoc c.args.out.now.items reads.1 c.in-Some.bytes.now,
        (λ _. more),
        λ read keyword. reads.4 read keyword
            ∙ rw c.advance.ensures.rest (taken _ _ _ _ c.in-Some.ensures.1
            (In read keyword c.args.marks reads.0 reads.1) (In read keyword c.args.marks true text)
            (rw (not-false _ (sym c.ne.ensures ∙ c.if-ne.false)) refl)),
      );
      fewer = search rules;
    }
