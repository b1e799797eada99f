use Rattle.po_catalog.proofs.Prelude.{Meets, YieldsList-from_slice, both, cases_from_all, of_one, rules, tests}
use Rattle.po_catalog.proofs.Entries.{all_tested}
use Rattle.po_catalog.proofs.texts.all_meet.Goals as goal

pub returns : goal.returns
returns c =
    let P = Meets c.args.need in
    let forms = all_tested P c.all.result c.args.forms.now
    (cases_from_all _ _ _ (λ x. P x.now) (λ x. P x.now → ⊥) c.all.ensures.ran
    (YieldsList-from_slice c.args.forms.now cc) (λ x q k. search (rules, tests)) (λ x q k. search (rules, tests))) in
    both P _ _ _ _
    (both P _ _ _ _
    (both P _ _ _ _ c.optional_meets.ensures (of_one P _ _ c.meets.ensures))
    c.optional_meets-2.ensures)
    forms
