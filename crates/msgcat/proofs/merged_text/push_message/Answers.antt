use Rattle.msgcat.proofs.Prelude.{All, All-cons, All-nil, HasAdmittedCharset, IfSome, IsCatalogueEntry, [], ap, option_to_list, subst, sym, ◌∙◌}
use Rattle.msgcat.proofs.merged_text.push_message.Goals as goal

pub returns-in_ok-push_separated-in-Some-clause-admitted : goal.returns-in_ok-push_separated-in-Some-clause-admitted
returns-in_ok-push_separated-in-Some-clause-admitted c = λ read h below.
    let valid = subst (λ o. IfSome o IsCatalogueEntry) c.in-Some.is c.in_ok-entry.ensures.valid in
    subst (All HasAdmittedCharset)
    (sym (ap option_to_list c.in-Some.is) ∙ c.in_ok-entry.ensures.merged read h below)
    (All-cons HasAdmittedCharset c.in-Some.entry [] valid.charset (All-nil HasAdmittedCharset))
