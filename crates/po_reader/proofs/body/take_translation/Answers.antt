use Rattle.po_reader.proofs.Prelude.{MsgIdPlural, None, Some, [], passed_on, refl, with_own, with_text, ◌∙◌, ◌∷◌}
use Rattle.po_reader.proofs.EntryTexts.{only_form_laid, plural_laid}
use Rattle.po_reader.proofs.ReaderSteps.{fails_from, single_wanted}
use Rattle.po_reader.proofs.body.take_translation.Goals as goal

pub returns-in_err-take_forms-clause-fault : goal.returns-in_err-take_forms-clause-fault
returns-in_err-take_forms-clause-fault c =
    passed_on c.from_residual-in_err-take_forms.result _ c.from_residual-in_err-take_forms.ensures.1 (λ read same.
    let first = c.in_ok-keyword.ensures.found in
    fails_from (rw c.in-MsgIdPlural.is at (first.2 read same))
    (c.in_err-take_forms.ensures.fault (with_own read (with_text MsgIdPlural first.0 read.own)) same))

pub returns-in-MsgIdPlural-clause-found : goal.returns-in-MsgIdPlural-clause-found
returns-in-MsgIdPlural-clause-found c =
    let first = c.in_ok-keyword.ensures.found in
    let forms = c.in_ok-take_forms.ensures.found in (
      Some first.0,
      forms.0,
      refl,
      plural_laid _ _ _ _ first.0 forms.0 c.in_ok-push.ensures.items first.1 forms.1,
      λ read same. rw c.in-MsgIdPlural.is at (first.2 read same)
          ∙ forms.2 (with_own read (with_text MsgIdPlural first.0 read.own)) same,
    )

pub returns-clause-found : goal.returns-clause-found
returns-clause-found c =
    let first = c.in_ok-keyword.ensures.found in
    let keyword = single_wanted c.in_ok-keyword.keyword c.in_ok-keyword.ensures.wanted
    c.in_default.not-MsgIdPlural in (
      None,
      first.0 ∷ [],
      refl,
      only_form_laid _ _ _ first.0 c.in_ok-push.ensures.items first.1,
      λ read same. rw keyword at (first.2 read same),
    )
