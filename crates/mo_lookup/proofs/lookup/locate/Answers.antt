use Rattle.mo_lookup.proofs.Prelude.{arith, refl, rules, sym, ℕ, ◌+◌, ◌-◌, ◌≡◌}
use Rattle.plural_rule.specs.declared.rule.Source.TheVariants.{Header}
use Rattle.mo_lookup.proofs.FormPlaces.{form-placed}
use Rattle.mo_lookup.proofs.lookup.locate.Goals as goal
use Rattle.mo_lookup.proofs.lookup.locate.Goals.{else-can_be_key, then-can_be_key}

difference : (before after old new spent : ℕ) → before ≡ old → after ≡ new → new ≡ old + spent → after - before ≡ spent
difference before after old new spent began ended is = omega arith

pub returns-clause-place : goal.returns-clause-place
returns-clause-place g c =
    let same : g.M.Keys.file c.if-can_be_key.messages ≡ g.M.Keys.file c.args.messages.now =
    elim c.if-can_be_key.branch [
      | then-can_be_key w ↦ rw w.messages-is w.index_of-index.ensures.same_file
      | else-can_be_key w ↦ rw w.messages-is refl
    ] in
    let form = form-placed (g.M.Keys.file c.if-can_be_key.messages) c.in-Some.index _ _ _ _ _ _
    c.translation_range-range.ensures c.translation-translation.ensures
    (c.answered_form-form.ensures.text Header) in
    let placed = rw same at form in
    (placed.order, placed.terminated)

pub returns-clause-answered : goal.returns-clause-answered
returns-clause-answered g c source =
    let form = form-placed (g.M.Keys.file c.if-can_be_key.messages) c.in-Some.index _ _ _ _ _ _
    c.translation_range-range.ensures c.translation-translation.ensures
    (c.answered_form-form.ensures.text source) in
    let text = sym form.text in
    let spent = difference c.count-steps_before.result c.count-2.result _ _ _
    c.count-steps_before.ensures c.count-2.ensures (c.answered_form-form.ensures.steps source) in
    search rules
