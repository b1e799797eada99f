use Rattle.command_line.proofs.Prelude.{argument_of, rules, take, take_all, ◌≡◌}
use Rattle.command_line.proofs.Arguments.{next_mapped, one_argument_more, tool_command}
use Rattle.command_line.proofs.commands.command_of.Goals as goal

pub loop-argument-preserved : goal.loop-argument-preserved
loop-argument-preserved c =
    let more = one_argument_more _ _ _ _ _ c.arg_of.result c.loop-argument.invariant c.in_ok-command.ensures
    c.arg_of.ensures.local c.arg_of.ensures.rule in
    rw (next_mapped (λ a. argument_of a.0.now a.1) c.parts_of.result.1.now c.loop-argument.argument-index _
    c.loop-argument-test.true) at more

pub returns : goal.returns
returns c =
    let all : take c.loop-argument.argument-index c.parts_of.result.1.now ≡ c.parts_of.result.1.now =
    search (rules, take_all) in
    tool_command c.args.tool _ _ (rw c.name-name.ensures at c.described-command.ensures.app)
    c.described-command.ensures.local (rw (all, c.parts_of.ensures) at c.loop-argument.invariant)
