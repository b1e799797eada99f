use Rattle.gettext.proofs.Prelude.{ap, expansion, rules, ◌∙◌, ◌≡◌}
use Rattle.gettext.proofs.plan.push_answer.Goals as goal

pub returns-clause-answer : goal.returns-clause-answer
returns-clause-answer c =
    let id : c.deref.result.now ≡ expansion c.args.argument.now =
    c.deref.ensures.value ∙ c.in_ok-expanded.ensures.bytes ∙ ap expansion c.as_bytes-2.ensures.value in
    let appended = rw id at c.in_ok-push_text-2.ensures in
    search (rules, appended)
