use Rattle.mo_lookup.proofs.Prelude.{ap, arith, slice_get, sym, translations, ◌∙◌}
use Rattle.mo_lookup.proofs.Translations.{listed-header-first, listed-header-none}
use Rattle.mo_lookup.proofs.opening.header_text.Goals as goal

pub returns-in-Equal-clause-text : goal.returns-in-Equal-clause-text
returns-in-Equal-clause-text g c =
    sym c.first_form.ensures.text
    ∙ sym
    (
    listed-header-first _ _ _ c.requires.keys c.len.ensures.rising (omega arith) (sym c.in-Equal.ensures.order)
    (ap (λ file. slice_get (translations file.messages) 0) (sym c.compare.ensures.same_file)
    ∙ c.translation-translation.ensures)
    )

pub returns-in_default-clause-text : goal.returns-in_default-clause-text
returns-in_default-clause-text g c =
    sym
    (
    listed-header-none _ _ c.requires.keys c.len.ensures.rising
    (λ equal. c.in_default.not-Equal (c.compare.ensures.order ∙ equal))
    )
