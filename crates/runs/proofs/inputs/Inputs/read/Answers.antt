use Rattle.runs.proofs.Prelude.{Bool, List, NamedFile, Some, ap, arith, drop, false≢true, inputs_in, length, length-append, length-take, places, refl, rules, subst, sum_by, sum_by-append, sym, vec_len, ⊎_elim, ◌+◌, ◌||◌, ◌∙◌, ◌≡◌}
use Rattle.runs.proofs.AskedInputs.{AsksBefore, AsksBefore-first, AsksBefore-more, AsksBefore-none, AsksBefore-read, AsksBefore-unread, Completes, Completes-all, Completes-none, Completes-read, Completes-unread, inputs-before, inputs-more, reads_as_before, stays_itself, stays_on}
use Rattle.runs.proofs.inputs.Inputs.read.Goals as goal
use Rattle.runs.proofs.inputs.Inputs.read.Goals.{else-is_stdin_read, then-is_stdin_read}

pub loop-argument-init : goal.loop-argument-init
loop-argument-init g c = record {
  inputs = rw c.new-texts.ensures.items (Completes-none _ _ _);
  stays = stays_itself _ _;
  all = rw (c.new-texts.ensures.items, c.new-bytes.ensures.len) refl;
  asked = AsksBefore-none _ _;
  refused = λ seen. absurd cc;
  count = rw c.new-texts.ensures.items refl;
}

pub returns-clause-inputs : goal.returns-clause-inputs
returns-clause-inputs g c = Completes-all _ _ _ _ _ _ c.loop-argument-test.false c.loop-argument.invariant.inputs

pub returns-clause-asked : goal.returns-clause-asked
returns-clause-asked g c = AsksBefore-first _ _ _ _ _ c.loop-argument.invariant.asked

pub returns-clause-asked_read : goal.returns-clause-asked_read
returns-clause-asked_read g c =
    AsksBefore-read _ _ _ _ _ _ _ refl c.loop-argument.invariant.count c.loop-argument.invariant.asked

pub loop-argument-preserved : goal.loop-argument-preserved
loop-argument-preserved g c =
    let next : c.if-is_stdin_read.is_stdin_read ≡ (c.loop-argument.is_stdin_read || c.eq-is_standard.result) =
    elim c.if-is_stdin_read.branch [
      | then-is_stdin_read w ↦ rw (w.is_stdin_read-is, w.if-is_stdin_read.true) refl
      | else-is_stdin_read w ↦ rw (w.is_stdin_read-is, w.if-is_stdin_read.false) refl
    ] in
    let seen = sym (next ∙ ap (λ s. c.loop-argument.is_stdin_read || s) c.eq-is_standard.ensures) in
    let before = c.loop-argument.bytes.items in
    let after = c.read_argument.new.bytes.items in
    let so_far = inputs_in before c.loop-argument.texts.items in
    let Completed : Bool → List NamedFile → Type 0 =
    λ seen list. Completes (g.S.InputSource.file c.args.source.now) (g.S.InputSource.standard c.args.source.now)
    c.args.arguments.now
    (c.loop-argument.argument-index + 1) seen list in
    let AskedOnce : Bool → Type 0 =
    λ seen. AsksBefore (g.S.InputSource.asked c.args.source.now)
    (g.S.InputSource.asked c.read_argument.new.source) c.args.arguments.now
    (c.loop-argument.argument-index + 1) seen in
    let read = drop (vec_len c.loop-argument.bytes) after in
    let len : vec_len c.loop-argument.bytes ≡ length before = search (rules, places) in
    let more = ap (inputs_in after) c.in_ok-push.ensures.items
    ∙ inputs-more _ before after c.loop-argument.texts.items _ _ len c.read_argument.ensures.before
    c.loop-argument.invariant.all c.shown_name-name.ensures (search (rules, places)) in record {
      inputs = subst (λ seen. Completed seen (inputs_in after c.push.new.self.items)) seen
          (subst (Completed _) (sym more)
          (Completes-read _ _ c.args.arguments.now c.loop-argument.argument-index _ c.loop-argument.is_stdin_read
          so_far read c.loop-argument-test.true
          (reads_as_before c.loop-argument.invariant.stays _ _ _ _ c.in_default.ensures.reading)
          c.loop-argument.invariant.inputs));
      stays = stays_on c.loop-argument.invariant.stays c.read_argument.ensures.stays;
      all = ap (sum_by (λ input. input.len)) c.in_ok-push.ensures.items ∙ sum_by-append _ c.loop-argument.texts.items _
          ∙ omega (
            arith,
            c.loop-argument.invariant.all,
            ap length c.read_argument.ensures.before,
            length-take (vec_len c.loop-argument.bytes) after,
            c.read_argument.new.bytes.ok.0,
            len,
          );
      asked = subst AskedOnce seen
          (AsksBefore-more _ _ _ c.args.arguments.now c.loop-argument.argument-index _ c.loop-argument.is_stdin_read
          c.loop-argument-test.true c.loop-argument.invariant.asked
          c.read_argument.ensures.asked);
      refused = λ seen now. let before =
          c.in_default.ensures.refused now in c.loop-argument.invariant.refused before.1 before.0;
      count = ap length more ∙ length-append so_far _ ∙ ap (λ n. n + 1) c.loop-argument.invariant.count;
    }

pub returns-in-Err-clause-inputs : goal.returns-in-Err-clause-inputs
returns-in-Err-clause-inputs g c =
    let len : vec_len c.loop-argument.bytes ≡ length c.loop-argument.bytes.items = search (rules, places) in
    rw (
      c.fault_of.ensures.text,
      c.shown_name-name.ensures,
      inputs-before _ _ _ c.loop-argument.texts.items len c.read_argument.ensures.before c.loop-argument.invariant.all,
    )
    (Completes-unread _ _ c.args.arguments.now c.loop-argument.argument-index _ c.loop-argument.is_stdin_read
    (inputs_in c.loop-argument.bytes.items c.loop-argument.texts.items) c.in-Err.why c.loop-argument-test.true
    (⊎_elim (λ memory. absurd (false≢true (rw memory at c.if-eq.ensures)))
    (λ reads. reads_as_before c.loop-argument.invariant.stays _ _ _ _ reads) c.in-Err.ensures.reading)
    c.loop-argument.invariant.inputs)

pub returns-in-Err-clause-asked : goal.returns-in-Err-clause-asked
returns-in-Err-clause-asked g c =
    AsksBefore-first _ _ _ _ _
    (AsksBefore-more _ _ _ c.args.arguments.now c.loop-argument.argument-index _ c.loop-argument.is_stdin_read
    c.loop-argument-test.true c.loop-argument.invariant.asked
    c.read_argument.ensures.asked)

pub returns-in_err-push-clause-asked : goal.returns-in_err-push-clause-asked
returns-in_err-push-clause-asked g c =
    AsksBefore-first _ _ _ _ _
    (AsksBefore-more _ _ _ c.args.arguments.now c.loop-argument.argument-index _ c.loop-argument.is_stdin_read
    c.loop-argument-test.true c.loop-argument.invariant.asked
    c.read_argument.ensures.asked)

pub returns-then-eq-clause-asked : goal.returns-then-eq-clause-asked
returns-then-eq-clause-asked g c =
    AsksBefore-first _ _ _ _ _
    (AsksBefore-more _ _ _ c.args.arguments.now c.loop-argument.argument-index _ c.loop-argument.is_stdin_read
    c.loop-argument-test.true c.loop-argument.invariant.asked
    c.read_argument.ensures.asked)

pub returns-in-Err-clause-asked_read : goal.returns-in-Err-clause-asked_read
returns-in-Err-clause-asked_read g c =
    let len : vec_len c.loop-argument.bytes ≡ length c.loop-argument.bytes.items = search (rules, places) in
    rw (inputs-before _ _ _ c.loop-argument.texts.items len c.read_argument.ensures.before
    c.loop-argument.invariant.all)
    (AsksBefore-unread _ _ c.args.arguments.now c.loop-argument.argument-index _ _ _ _
    (ap Some c.fault_of.ensures.text) c.loop-argument.invariant.count
    (AsksBefore-more _ _ _ c.args.arguments.now c.loop-argument.argument-index _ c.loop-argument.is_stdin_read
    c.loop-argument-test.true c.loop-argument.invariant.asked
    c.read_argument.ensures.asked))
