use Rattle.command_line.proofs.Prelude.{OffersTools, take}
use Rattle.command_line.proofs.commands.program.Given as goal

abbrev pub invariant-loop-tool : goal.invariant-loop-tool
invariant-loop-tool l = OffersTools (take l.tool-index l.tools) l.program
