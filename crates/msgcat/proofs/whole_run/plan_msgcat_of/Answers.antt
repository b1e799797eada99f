use Rattle.msgcat.proofs.Prelude.{All, IfOk-weaker, IsMsgcatRun, IsReadingOf, IsUnread, Lacks, MatchResult-from_both, Ok, ap, false≢true, inl, named_files, named_inputs, none_read, run_view, subst, ◌∙◌}
use Rattle.msgcat.proofs.Runs.{name_told, names_before, none_before, refused_before, refused_whole}
use Rattle.msgcat.proofs.whole_run.plan_msgcat_of.Goals as goal

pub returns-in_err-texts-clause-first : goal.returns-in_err-texts-clause-first
returns-in_err-texts-clause-first c =
    λ none. absurd (false≢true (c.in_err-texts.ensures.none (none_read c.args.inputs none)))

pub plan_msgcat_before-requires : goal.plan_msgcat_before-requires
plan_msgcat_before-requires c =
    names_before (named_inputs c.args.inputs) c.in_ok-texts.texts.items _ _ c.in_ok-texts.ensures.files
    c.deref.ensures.value
    c.deref-in-Some.ensures.value c.in-Some.place c.in-Some.name c.in-Some.ensures

pub returns-in-Some-clause-whole : goal.returns-in-Some-clause-whole
returns-in-Some-clause-whole c =
    λ whole. IfOk-weaker c.plan_msgcat_before.result (λ run. IsUnread (named_inputs c.args.inputs) (run_view run))
    (λ run. IsMsgcatRun (named_inputs c.args.inputs) c.args.options.now (run_view run)) (λ run unread. inl unread)
    (refused_whole (named_inputs c.args.inputs) c.in_ok-texts.texts.items _ _ c.in_ok-texts.ensures.files
    c.deref.ensures.value
    c.deref-in-Some.ensures.value c.in-Some.place c.in-Some.name c.in-Some.ensures _
    c.plan_msgcat_before.ensures.refused)

pub returns-in-Some-clause-refused : goal.returns-in-Some-clause-refused
returns-in-Some-clause-refused c =
    λ fault. refused_whole (named_inputs c.args.inputs) c.in_ok-texts.texts.items _ _ c.in_ok-texts.ensures.files
    c.deref.ensures.value
    c.deref-in-Some.ensures.value c.in-Some.place c.in-Some.name c.in-Some.ensures _
    c.plan_msgcat_before.ensures.refused

pub returns-in-Some-clause-names : goal.returns-in-Some-clause-names
returns-in-Some-clause-names c =
    refused_before (named_inputs c.args.inputs) c.in_ok-texts.texts.items _ _ c.in_ok-texts.ensures.files
    c.deref.ensures.value
    c.deref-in-Some.ensures.value c.in-Some.place c.in-Some.name c.in-Some.ensures _
    c.plan_msgcat_before.ensures.refused

pub returns-in-Some-clause-fault : goal.returns-in-Some-clause-fault
returns-in-Some-clause-fault c =
    name_told (named_inputs c.args.inputs) c.in_ok-texts.texts.items _ _ c.in_ok-texts.ensures.files
    c.deref.ensures.value
    c.deref-in-Some.ensures.value c.in-Some.place c.in-Some.name c.in-Some.ensures _ _
    c.plan_msgcat_before.ensures.fault

pub returns-in-Some-fault-clause-names : goal.returns-in-Some-fault-clause-names
returns-in-Some-fault-clause-names c =
    none_before _ (named_inputs c.args.inputs) (subst (All (λ file. Lacks 0 file.name))
    (ap named_files c.deref.ensures.value ∙ c.in_ok-texts.ensures.files) c.in_default.ensures)

pub returns-clause-names : goal.returns-clause-names
returns-clause-names c =
    none_before (Ok c.in_ok-run.run') (named_inputs c.args.inputs) (subst (All (λ file. Lacks 0 file.name))
    (ap named_files c.deref.ensures.value ∙ c.in_ok-texts.ensures.files) c.in_default.ensures)

pub run_of_read-requires : goal.run_of_read-requires
run_of_read-requires c = (
  named_files c.deref-2.result.now,
  MatchResult-from_both c.read_inputs-read.result _ _ c.read_inputs-read.ensures.read
      c.read_inputs-read.ensures.fault,
)

pub returns-clause-whole : goal.returns-clause-whole
returns-clause-whole c = λ none.
    c.in_ok-run.ensures (named_inputs c.args.inputs)
    (subst (λ files. IsReadingOf files c.read_inputs-read.result)
    (ap named_files c.deref-2.ensures.value ∙ c.in_ok-texts.ensures.files)
    (MatchResult-from_both c.read_inputs-read.result _ _ c.read_inputs-read.ensures.read
    c.read_inputs-read.ensures.fault))
