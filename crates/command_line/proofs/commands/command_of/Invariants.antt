use Rattle.command_line.proofs.Prelude.{AddsArguments, argument_of, map, take}
use Rattle.command_line.proofs.commands.command_of.Given as goal

abbrev pub invariant-loop-argument : goal.invariant-loop-argument
invariant-loop-argument l =
    AddsArguments (map (λ a. argument_of a.0.now a.1) (take l.argument-index l.arguments)) l.initial.command l.command
