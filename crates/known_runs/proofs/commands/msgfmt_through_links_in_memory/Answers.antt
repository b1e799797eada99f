use Rattle.known_runs.proofs.Prelude.{EndsThroughLinks, codes, links_by_path, refl}
use Rattle.known_runs.proofs.CommandRuns.{ends_over, is_read}
use Rattle.known_runs.proofs.Msgfmt.{through_links, unstarted_so}
use Rattle.known_runs.proofs.commands.msgfmt_through_links_in_memory.Goals as goal

pub returns : goal.returns
returns c =
    let links = links_by_path c.args.links.now in
    ends_over (EndsThroughLinks links c.args.place.now c.args.text.now) (unstarted_so links c.args.place.now _ _)
    (λ new result ran. let line = ran.runs in
    through_links c.args.text.now c.args.place.now _ new refl refl _ (is_read ran.source ran.files_are (codes "a.po"))
    (ran.leaves (codes "a.mo")) ran.same line.options _ refl refl line.options_are line.arguments line.output
    line.arguments_are line.output_is line.runs) c.over_files.ensures
