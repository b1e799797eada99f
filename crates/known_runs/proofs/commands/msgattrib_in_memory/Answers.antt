use Rattle.known_runs.proofs.Prelude.{EndsInFile, IsMsgattribRun, all_as_they_are, codes, failed, inl, refl}
use Rattle.known_runs.proofs.CommandRuns.{all_selected, ends_over, is_read, line_ends, selection_is}
use Rattle.known_runs.proofs.commands.msgattrib_in_memory.Goals as goal

pub returns : goal.returns
returns c =
    ends_over (EndsInFile (IsMsgattribRun (codes "a.po") all_as_they_are c.args.text.now) (codes "b.po"))
    (failed (inl refl)) (λ new result ran. let line = ran.runs in
    all_selected _ (selection_is _ line.selection_is) (codes "a.po") c.args.text.now (codes "b.po") _ _
    (line_ends (λ file run. IsMsgattribRun file.name line.selection file.bytes run) c.args.text.now (codes "a.po")
    (codes "b.po") refl refl _ new refl refl refl _ (is_read ran.source ran.files_are (codes "a.po"))
    (ran.leaves (codes "b.po")) ran.same _ refl refl line.runs.argument_is line.runs.output_is line.runs.runs))
    c.over_files.ensures
