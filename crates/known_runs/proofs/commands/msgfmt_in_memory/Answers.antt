use Rattle.known_runs.proofs.Prelude.{EndsMsgfmt, [], codes, inl, refl}
use Rattle.known_runs.specs.Msgfmt.{failed}
use Rattle.known_runs.proofs.CommandRuns.{ends_over, is_read, leads_there}
use Rattle.known_runs.proofs.Msgfmt.{line_ends}
use Rattle.known_runs.proofs.commands.msgfmt_in_memory.Goals as goal

pub returns : goal.returns
returns c =
    ends_over (EndsMsgfmt c.args.text.now) (failed (inl refl)) (λ new result ran.
    let line = ran.runs in
    line_ends c.args.text.now (codes "a.mo") _ new (λ target leads. leads_there [] refl leads) refl refl _
    (is_read ran.source ran.files_are (codes "a.po")) (ran.leaves (codes "a.mo")) ran.same line.options _ refl refl
    line.options_are line.arguments line.output line.arguments_are line.output_is line.runs) c.over_files.ensures
