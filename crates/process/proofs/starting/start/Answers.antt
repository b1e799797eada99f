use Rattle.process.specs.Starting.{is_closed, runs}
use Rattle.process.proofs.starting.start.Goals as goal

pub returns-in-Err : goal.returns-in-Err
returns-in-Err g c =
    rw (c.report.ensures.ending)
    (is_closed c.in-Err.fault c.in-Err.ensures.calls c.in-Err.ensures.fault c.report.ensures.line)

pub returns : goal.returns
returns g c = runs c.in_default.ensures.calls c.run.ensures
