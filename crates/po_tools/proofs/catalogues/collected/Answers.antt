use Rattle.po_tools.proofs.Prelude.{HoldCatalogues, IsCatalogueEntry, [], ap, arith, live_messages, refl, subst, sym, take, take_more, ◌++◌, ◌+◌, ◌∙◌, ◌∷◌}
use Rattle.std.proofs.Common.{All}
use Rattle.po_compile.proofs.CollectedInputs.{held_more}
use Rattle.po_tools.proofs.catalogues.collected.Goals as goal

pub loop-catalogue-init : goal.loop-catalogue-init
loop-catalogue-init c = rw c.in_ok-inputs.ensures.items
    (record { valid = λ k d inside. absurd (omega (arith, inside)); messages = refl })

pub loop-catalogue-preserved : goal.loop-catalogue-preserved
loop-catalogue-preserved c =
    let use_fuzzy = c.args.use_fuzzy in
    let catalogues = c.args.catalogues.now in
    let i = c.loop-catalogue.catalogue-index in
    let catalogue = c.catalogue-item.result in
    let collected = c.of.result in
    let messages = c.of.ensures
    ∙ ap (live_messages use_fuzzy) (c.in_ok-store.ensures ∙ c.entries.ensures.entries) in
    let more = held_more use_fuzzy
    (take i catalogues) c.loop-catalogue.inputs.items catalogue collected c.loop-catalogue.invariant
    (subst (All IsCatalogueEntry) c.entries.ensures.entries c.entries.ensures.valid) messages in
    subst (HoldCatalogues use_fuzzy (take (i + 1) catalogues)) (sym c.in_ok-push.ensures.items)
    (subst (λ cs. HoldCatalogues use_fuzzy cs (c.loop-catalogue.inputs.items ++ collected ∷ []))
    (ap (λ e. take i catalogues ++ e ∷ []) c.catalogue-item.is
    ∙ sym (take_more catalogues i catalogue c.loop-catalogue-test.true)) more)
