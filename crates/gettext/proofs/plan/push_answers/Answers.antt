use Rattle.gettext.proofs.Prelude.{argument_answer, gettext_view, omits_newline}
use Rattle.gettext.proofs.FoundCatalogues.{answers-reported, omitted-reported}
use Rattle.gettext.proofs.plan.push_answers.Goals as goal

pub returns-clause-answers : goal.returns-clause-answers
returns-clause-answers c =
    answers-reported (argument_answer c.args.chain.now (gettext_view c.args.options.now))
    c.args.options.now.messages.now c.in-Some.others.now c.in-Some.first.now
    c.args.output.now.items c.push_answer.new.output.items c.loop-argument.output.items c.loop-argument.argument-index
    c.in-Some.ensures.cases.0 c.loop-argument-test.false c.in_ok-omitted.ensures.answer c.loop-argument.invariant.0

pub returns-clause-no_newline : goal.returns-clause-no_newline
returns-clause-no_newline c =
    omitted-reported (omits_newline (gettext_view c.args.options.now)) c.args.options.now.messages.now
    c.in-Some.others.now c.in-Some.first.now
    c.in_ok-omitted.omitted c.loop-argument.omitted c.loop-argument.argument-index
    c.in-Some.ensures.cases.0 c.loop-argument-test.false c.in_ok-omitted.ensures.no_newline c.loop-argument.invariant.1
