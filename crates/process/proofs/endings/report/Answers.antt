use Rattle.process.proofs.Prelude.{Some, ap, refl, writer, ◌≡◌}
use Rattle.std.proofs.Common.{option_map}
use Rattle.std.specs.Option.{option_copied}
use Rattle.runs.specs.Prelude.{tool_name}
use Rattle.process.proofs.CallOutcomes.{told}
use Rattle.process.proofs.endings.report.Goals as goal
use Rattle.process.proofs.endings.report.Goals.{in-None, in-Some}

pub returns-clause-line : goal.returns-clause-line
returns-clause-line g c =
    let said = c.report_fault.ensures in
    let name : option_copied c.match-tool.name ≡ option_map tool_name c.args.tool = elim c.match-tool.branch [
      | in-Some w ↦ rw (w.name-is, w.in-Some.is) (ap Some w.name.ensures)
      | in-None w ↦ rw (w.name-is, w.in-None.is) refl
    ] in
    let line = rw name at said.line in
    told c.report_fault.result _ (writer (g.E.ByteOut.contents c.args.err.now) (g.E.ByteOut.failures c.args.err.now))
    (writer (g.E.ByteOut.contents c.report_fault.new.err) (g.E.ByteOut.failures c.report_fault.new.err))
    line said.no_failure said.cause
