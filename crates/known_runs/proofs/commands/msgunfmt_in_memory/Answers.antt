use Rattle.known_runs.proofs.Prelude.{EndsInFile, codes, failed, inl, refl}
use Rattle.msgunfmt.specs.Prelude.{IsMsgunfmtRun, IsMsgunfmtRunOf}
use Rattle.known_runs.proofs.CommandRuns.{ends_over, is_read, line_ends}
use Rattle.known_runs.proofs.commands.msgunfmt_in_memory.Goals as goal

pub returns : goal.returns
returns c =
    ends_over (EndsInFile (IsMsgunfmtRunOf (codes "a.mo") c.args.bytes.now) (codes "a.po")) (failed (inl refl))
    (λ new result ran. let line = ran.runs in
    line_ends IsMsgunfmtRun c.args.bytes.now (codes "a.mo") (codes "a.po") refl refl _ new refl refl refl _
    (is_read ran.source ran.files_are (codes "a.mo")) (ran.leaves (codes "a.po")) ran.same _ refl refl line.argument_is
    line.output_is line.runs) c.over_files.ensures
