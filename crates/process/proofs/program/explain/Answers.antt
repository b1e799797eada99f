use Rattle.process.proofs.Prelude.{helps, refl}
use Rattle.process.specs.Program.{refuses}
use Rattle.process.proofs.program.explain.Goals as goal

pub returns-then-use_stderr-clause-text : goal.returns-then-use_stderr-clause-text
returns-then-use_stderr-clause-text g c = (
  c.as_str.result.now,
  rw (← c.system.view_is, c.in_ok-refuse.ensures.ending) (refuses c.in_ok-refuse.ensures.text refl refl),
)

pub returns-clause-text : goal.returns-clause-text
returns-clause-text g c =
    (c.as_str-2.result.now, rw (← c.system.view_is) (helps c.give_help.ensures refl refl))
