use Rattle.command_line.proofs.Prelude.{offered_tools, rules, take, take_all, ◌≡◌}
use Rattle.command_line.proofs.Arguments.{names_offered, next_tool, one_tool_more}
use Rattle.command_line.proofs.commands.program.Goals as goal
use Rattle.command_line.proofs.commands.program.Goals.{in-None, in-Some}

pub loop-tool-preserved : goal.loop-tool-preserved
loop-tool-preserved c =
    next_tool c.match-first.tools.now c.loop-tool.tool-index _ c.in_ok-program.program c.loop-tool-test.true
    (one_tool_more (take c.loop-tool.tool-index c.match-first.tools.now) _ c.loop-tool.program _ c.in_ok-program.program
    c.loop-tool.invariant c.in_ok-command.ensures c.in_ok-program.ensures)

pub returns-clause-takes : goal.returns-clause-takes
returns-clause-takes c =
    let all : take c.loop-tool.tool-index c.match-first.tools.now ≡ c.match-first.tools.now =
    search (rules, take_all) in
    let tools : c.match-first.tools.now ≡ offered_tools c.args.first = elim c.match-first.branch [
      | in-Some w ↦ rw (w.tools-is, w.in-Some.is) w.from_ref-tools.ensures.value
      | in-None w ↦ rw (w.tools-is, w.in-None.is) (search rules)
    ] in
    rw (all, tools) at c.loop-tool.invariant

pub returns-clause-names : goal.returns-clause-names
returns-clause-names c = names_offered c.args.first c.loop-tool.program (returns-clause-takes c)
