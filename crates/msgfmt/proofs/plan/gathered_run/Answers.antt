use Rattle.msgfmt.proofs.Prelude.{AreCollected, IfOk-weaker, ap, arith, check_line, false, inl, input_texts, inr, is_ok, join_line, length, refusal, slice_texts, sym, true, true≢false, ⊎_elim, ◌∙◌, ◌≡◌}
use Rattle.msgfmt.proofs.Runs.{collected-count}
use Rattle.msgfmt.proofs.plan.gathered_run.Goals.{else-options, then-options}
use Rattle.msgfmt.proofs.plan.gathered_run.Goals as goal

pub check_collected-checked-requires : goal.check_collected-checked-requires
check_collected-checked-requires c =
    let of = rw c.in-Ok.is at c.requires.1.collects in
    omega (
      arith,
      c.requires.1.few,
      ap length c.deref-then-options.ensures.value,
      collected-count c.args.options.now.use_fuzzy c.requires.0 c.in-Ok.collected.items of,
    )

pub compile_collected-requires-clause-few : goal.compile_collected-requires-clause-few
compile_collected-requires-clause-few c =
    let of = rw c.in-Ok.is at c.requires.1.collects in
    omega (
      arith,
      c.requires.1.few,
      ap length c.deref-2.ensures.value,
      collected-count c.args.options.now.use_fuzzy c.requires.0 c.in-Ok.collected.items of,
    )

pub returns-in-Err : goal.returns-in-Err
returns-in-Err c =
    IfOk-weaker c.refused_run.result _ _
    (λ run reported inputs held.
    let named = ap slice_texts c.deref.ensures.value ∙ held.named in
    inl (record {
      error = c.in-Err.error;
      fault = inl (rw c.in-Err.is at held.collects);
      not_memory = reported.0;
      run_is = reported.1 ∙ ap (λ names. refusal (join_line names c.in-Err.error)) named;
    }))
    c.refused_run.ensures

pub returns-in-Err-compile_collected : goal.returns-in-Err-compile_collected
returns-in-Err-compile_collected c =
    IfOk-weaker c.refused_run-in-Err-compile_collected.result _ _
    (λ run reported inputs held.
    let named = ap slice_texts c.deref-in-Err-compile_collected.ensures.value ∙ held.named in
    let fault = rw c.deref-2.ensures.value at c.in-Err-compile_collected.ensures.fault in
    inl (record {
      error = c.in-Err-compile_collected.error;
      fault = fault (input_texts inputs) (rw c.in-Ok.is at held.collects);
      not_memory = reported.0;
      run_is = reported.1 ∙ ap (λ names. refusal (join_line names c.in-Err-compile_collected.error)) named;
    }))
    c.refused_run-in-Err-compile_collected.ensures

pub returns-in-Ok-checked : goal.returns-in-Ok-checked
returns-in-Ok-checked c =
    IfOk-weaker c.compiled_run.result _ _
    (λ run run_is inputs held.
    let texts = input_texts inputs in
    let read : AreCollected c.args.options.now.use_fuzzy texts c.in-Ok.collected.items =
    rw c.in-Ok.is at held.collects in
    let compiled = (rw c.deref-2.ensures.value at c.in-Ok-compile_collected.ensures.found) texts read in
    let checked : c.args.options.now.profile_check ≡ true → _ = λ asked. elim c.if-options.branch [
      | then-options w ↦
          let fit = rw (sym w.checked-is ∙ c.in-Ok-checked.is) at w.check_collected-checked.ensures.fit in
          (rw w.deref-then-options.ensures.value at fit) c.args.options.now.use_fuzzy read.catalogues read.held
      | else-options w ↦ let wrong : true ≡ false = sym asked ∙ w.if-options.false in absurd (true≢false wrong)
    ] in
    inr (inr (record {
      catalogues = read.catalogues;
      read = compiled.0;
      compiled = c.in-Ok-compile_collected.compiled;
      is_compiled = compiled.1;
      stats = (rw c.deref-2.ensures.value at c.in-Ok-compile_collected.ensures.statistics) texts read;
      checked = checked;
      run_is = run_is;
    })))
    c.compiled_run.ensures

pub returns : goal.returns
returns c =
    IfOk-weaker c.failed_check_run.result _ _
    (λ run reported inputs held.
    let read : AreCollected c.args.options.now.use_fuzzy (input_texts inputs) c.in-Ok.collected.items =
    rw c.in-Ok.is at held.collects in
    let named = ap slice_texts c.deref-in-Err-checked.ensures.value ∙ held.named in
    let compiled = (rw c.deref-2.ensures.value at c.in-Ok-compile_collected.ensures.found) (input_texts inputs) read in
    elim c.if-options.branch [
      | then-options w ↦ ⊎_elim (λ memory. absurd (reported.0 (ap (λ f. f.1) memory)))
          (λ found. inr (inl (record {
            catalogues = read.catalogues;
            read = compiled.0;
            compiled = c.in-Ok-compile_collected.compiled;
            is_compiled = compiled.1;
            asked = w.if-options.true;
            fault = (c.in-Err-checked.input, c.in-Err-checked.fault);
            checked = (rw w.deref-then-options.ensures.value at found) c.args.options.now.use_fuzzy read.catalogues
                read.held;
            run_is = reported.1
                ∙ ap (λ names. refusal (check_line names (c.in-Err-checked.input, c.in-Err-checked.fault))) named;
          })))
          (rw (sym w.checked-is ∙ c.in-Err-checked.is) at w.check_collected-checked.ensures.unfit)
      | else-options w ↦ let wrong : true ≡ false = ap is_ok (sym w.checked-is ∙ c.in-Err-checked.is) in absurd
          (true≢false wrong)
    ])
    c.failed_check_run.ensures
