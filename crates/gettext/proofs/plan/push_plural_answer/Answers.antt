use Rattle.gettext.proofs.Prelude.{ap, expansion, rules, ◌∙◌, ◌≡◌}
use Rattle.gettext.proofs.plan.push_plural_answer.Goals as goal

pub returns-clause-answer : goal.returns-clause-answer
returns-clause-answer c =
    let id : c.deref.result.now ≡ expansion c.args.options.now.id.now =
    c.deref.ensures.value ∙ c.in_ok-id.ensures.bytes ∙ ap expansion c.as_bytes-2.ensures.value in
    let plural : c.deref-2.result.now ≡ expansion c.args.options.now.plural.now =
    c.deref-2.ensures.value ∙ c.in_ok-plural.ensures.bytes ∙ ap expansion c.as_bytes-3.ensures.value in
    let appended = rw (id, plural) at c.in_ok-push_text-2.ensures in
    search (rules, appended)
