use Rattle.po_reader.proofs.Prelude.{[], arith, passed_on, sym, with_forms, ◌++◌, ◌∙◌, ◌∷◌}
use Rattle.po_reader.proofs.EntryTexts.{form_laid}
use Rattle.po_reader.proofs.ReaderSteps.{fails_from, form_follows, form_wanted, forms_end}
use Rattle.po_reader.proofs.body.take_forms.Goals as goal

pub loop-rest-preserved : goal.loop-rest-preserved
loop-rest-preserved c =
    let goes_on = sym c.begins_form.ensures ∙ c.if-not-begins_form.false in
    let reads = c.loop-rest.invariant.reads in
    let form = c.in_ok-take_keyword_text.ensures.found in
    let keyword = form_wanted c.loop-rest.index c.in_ok-take_keyword_text.field-0.0
    c.in_ok-take_keyword_text.ensures.wanted in
    record {
      reads = (
        reads.0 ++ form.0 ∷ [],
        form_laid _ _ _ _ form.0 reads.0 reads.1 c.in_ok-push.ensures.items form.1,
        λ read same. reads.2 read same ∙ rw keyword at (form.2 (with_forms read reads.0) same)
            ∙ form_follows _ _ _ _ goes_on,
      );
      fewer = omega (arith, c.in_ok-take_keyword_text.ensures.fewer, c.loop-rest.invariant.fewer);
    }

pub returns-then-not-begins_form-clause-found : goal.returns-then-not-begins_form-clause-found
returns-then-not-begins_form-clause-found c =
    let ends = sym c.begins_form.ensures ∙ c.if-not-begins_form.true in
    let reads = c.loop-rest.invariant.reads in
    let form = c.in_ok-take_keyword_text.ensures.found in
    let keyword = form_wanted c.loop-rest.index c.in_ok-take_keyword_text.field-0.0
    c.in_ok-take_keyword_text.ensures.wanted in (
      reads.0 ++ form.0 ∷ [],
      form_laid _ _ _ _ form.0 reads.0 reads.1 c.in_ok-push.ensures.items form.1,
      λ read same. reads.2 read same ∙ rw keyword at (form.2 (with_forms read reads.0) same)
          ∙ forms_end _ _ _ _ ends,
    )

pub returns-in_err-take_keyword_text-clause-fault : goal.returns-in_err-take_keyword_text-clause-fault
returns-in_err-take_keyword_text-clause-fault c =
    passed_on c.from_residual-in_err-take_keyword_text.result _ c.from_residual-in_err-take_keyword_text.ensures.1
    (λ read same.
    let reads = c.loop-rest.invariant.reads in
    fails_from (reads.2 read same)
    (c.in_err-take_keyword_text.ensures.fault (with_forms read reads.0) same))
