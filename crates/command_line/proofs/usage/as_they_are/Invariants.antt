use Rattle.command_line.proofs.Prelude.{map, string_bytes, take, ◌≡◌}
use Rattle.command_line.proofs.usage.as_they_are.Given as goal

abbrev pub invariant-loop-argument : goal.invariant-loop-argument
invariant-loop-argument l = map (λ word. word.now) l.words.items ≡ map string_bytes (take l.argument-index l.arguments)
