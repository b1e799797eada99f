use Rattle.known_runs.proofs.Prelude.{EndsInFile, IsMsgcatRun, all_messages, codes, failed, inl, refl, two_files}
use Rattle.known_runs.proofs.CommandRuns.{ends_over, is_read}
use Rattle.known_runs.proofs.Msgcat.{line_ends}
use Rattle.known_runs.proofs.commands.msgcat_in_memory.Goals as goal

pub returns : goal.returns
returns c =
    ends_over (EndsInFile (IsMsgcatRun (two_files c.args.a.now c.args.b.now) all_messages) (codes "c.po"))
    (failed (inl refl)) (λ new result ran. let line = ran.runs in
    let read = is_read ran.source ran.files_are in
    line_ends c.args.a.now c.args.b.now _ new refl refl refl _ (read (codes "a.po")) (read (codes "b.po"))
    (ran.leaves (codes "c.po")) ran.same _ refl line.options_are line.arguments_are line.output_is line.runs)
    c.over_files.ensures
