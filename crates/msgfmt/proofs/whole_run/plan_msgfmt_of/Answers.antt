use Rattle.msgfmt.proofs.Prelude.{AreWrong, Bool, IsMsgfmtRun, List, NamedFile, Option, ProgramFault, Some, [], ap, arith, false, inl, inr, length, length-map, named_count, named_file, named_files, named_inputs, not, refl, run_view, subst, sym, true, true≢false, ⊎_elim, ◌<◌, ◌==◌, ◌∙◌, ◌≡◌}
use Rattle.runs.specs.declared.inputs.Inputs.{Inputs}
use Rattle.msgfmt.proofs.Runs.{refused, taken}
use Rattle.msgfmt.proofs.whole_run.plan_msgfmt_of.Goals.{else-options, then-options}
use Rattle.msgfmt.proofs.whole_run.plan_msgfmt_of.Goals as goal

some_text : (inputs : Inputs) → (inputs.texts.len == 0) ≡ false → named_inputs inputs ≡ [] → ⊥
some_text inputs some none =
    let no_text : inputs.texts.len ≡ 0 = omega (arith, ap length none, named_count inputs, inputs.texts.ok.0) in
    absurd (true≢false (sym (ap (λ n. n == 0) no_text) ∙ some))

not_wrong : (inputs : Inputs) (fault : Option ProgramFault) → (inputs.texts.len == 0) ≡ false
    → inputs.texts.len < 4294967296 → AreWrong (named_inputs inputs) fault → ⊥
not_wrong inputs fault some few wrong =
    ⊎_elim (λ none. some_text inputs some none.0)
    (λ many. absurd (omega (arith, many, few, named_count inputs, inputs.texts.ok.0))) wrong

no_fault : (is_whole : Bool) → false ≡ not is_whole → is_whole ≡ true
no_fault true e = refl
no_fault false e = e

some_fault : (is_whole : Bool) → true ≡ not is_whole → is_whole ≡ false
some_fault true e = e
some_fault false e = refl

pub gather-requires : goal.gather-requires
gather-requires c =
    omega (
      arith,
      c.len.ensures,
      c.if-len.false,
      named_count c.args.inputs,
      c.args.inputs.texts.ok.0,
      ap length c.in_ok-borrowed.ensures.files,
      length-map c.in_ok-borrowed.borrowed.items named_file,
      ap length c.deref.ensures.value,
    )

pub returns-in_default-clause-whole : goal.returns-in_default-clause-whole
returns-in_default-clause-whole c none =
    let checks : c.if-options.options ≡ c.args.options.now.profile_check = elim c.if-options.branch [
      | then-options w ↦ w.options-is ∙ no_fault _ (rw none at c.is_none-is_whole.ensures) ∙ sym w.if-options.true
      | else-options w ↦ w.options-is
    ] in
    let Planned : List NamedFile → Bool → Type 0 =
    λ inputs check. IsMsgfmtRun inputs (record c.args.options.now { profile_check = check })
    (run_view c.in_ok-run.run') in
    subst (Planned (named_inputs c.args.inputs)) checks
    (subst (λ inputs. Planned inputs c.if-options.options)
    (ap named_files c.deref.ensures.value ∙ c.in_ok-borrowed.ensures.files)
    (c.in_ok-run.ensures (named_files c.deref.result.now) c.in_ok-gathered.ensures))

pub returns-then-run-eq0-clause-fault : goal.returns-then-run-eq0-clause-fault
returns-then-run-eq0-clause-fault c =
    let given : c.args.inputs.fault ≡ Some c.in-Some.fault = cc in
    let unchecked : c.if-options.options ≡ false = elim c.if-options.branch [
      | then-options w ↦ w.options-is ∙ some_fault _ (rw given at c.is_none-is_whole.ensures)
      | else-options w ↦ w.options-is ∙ w.if-options.false
    ] in
    let files = ap named_files c.deref.ensures.value ∙ c.in_ok-borrowed.ensures.files in
    let planned = c.in_ok-run.ensures (named_files c.deref.result.now) c.in_ok-gathered.ensures in
    inr (inr (
      given,
      taken _ c.args.options.now _ (run_view c.in_ok-run.run') unchecked refl (rw files at planned) c.if-run-eq0.true,
    ))

pub returns-clause-refused : goal.returns-clause-refused
returns-clause-refused c unread =
    let given : c.args.inputs.fault ≡ Some c.in-Some.fault = cc in
    let unchecked : c.if-options.options ≡ false = elim c.if-options.branch [
      | then-options w ↦ w.options-is ∙ some_fault _ (rw given at c.is_none-is_whole.ensures)
      | else-options w ↦ w.options-is ∙ w.if-options.false
    ] in
    let files = ap named_files c.deref.ensures.value ∙ c.in_ok-borrowed.ensures.files in
    let planned = c.in_ok-run.ensures (named_files c.deref.result.now) c.in_ok-gathered.ensures in
    refused _ c.args.options.now _ (run_view c.in_ok-run.run') unchecked refl (rw files at planned) c.if-run-eq0.false

pub returns-in_err-borrowed-clause-first : goal.returns-in_err-borrowed-clause-first
returns-in_err-borrowed-clause-first c =
    λ none. absurd (some_text c.args.inputs (sym c.is_empty.ensures ∙ c.if-is_empty.false) none)

pub returns-in_err-gathered-clause-first : goal.returns-in_err-gathered-clause-first
returns-in_err-gathered-clause-first c =
    λ none. absurd (some_text c.args.inputs (sym c.is_empty.ensures ∙ c.if-is_empty.false) none)

pub returns-in_default-clause-right : goal.returns-in_default-clause-right
returns-in_default-clause-right c =
    not_wrong c.args.inputs c.args.inputs.fault (sym c.is_empty.ensures ∙ c.if-is_empty.false)
    (omega (arith, c.len.ensures, c.if-len.false))

pub returns-then-len-clause-fault : goal.returns-then-len-clause-fault
returns-then-len-clause-fault c =
    inr (inl (
      refl,
      inr (omega (arith, c.len.ensures, c.if-len.true, named_count c.args.inputs, c.args.inputs.texts.ok.0)),
    ))

pub returns-then-len-clause-first : goal.returns-then-len-clause-first
returns-then-len-clause-first c =
    λ none. absurd (omega (
      arith,
      ap length none,
      c.len.ensures,
      c.if-len.true,
      named_count c.args.inputs,
      c.args.inputs.texts.ok.0,
    ))

pub returns-in_err-run-clause-first : goal.returns-in_err-run-clause-first
returns-in_err-run-clause-first c =
    λ none. absurd (some_text c.args.inputs (sym c.is_empty.ensures ∙ c.if-is_empty.false) none)

pub returns-clause-first : goal.returns-clause-first
returns-clause-first c =
    λ none. absurd (some_text c.args.inputs (sym c.is_empty.ensures ∙ c.if-is_empty.false) none)
