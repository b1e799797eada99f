use Rattle.known_runs.proofs.Prelude.{[], ap, contents, links_by_path, option_map, string_bytes, texts_by_name, unstarted}
use Rattle.known_runs.proofs.CommandRuns.{arrives, holds_after, holds_before, holds_now}
use Rattle.known_runs.proofs.commands.over_files.Goals as goal

pub returns-in-Err : goal.returns-in-Err
returns-in-Err c = rw (c.from.ensures, c.new-in-Err.ensures, c.new.ensures) unstarted

pub returns : goal.returns
returns c =
    let path = string_bytes c.in-Ok.path in
    let reached = c.run_in_memory-reached.result.1 in
    let links = links_by_path c.args.links.now in
    let held = option_map (λ b. (path, b.items)) c.args.held in
    let old = contents links held [] [] in
    let new = holds_now reached in
    let before = holds_before c.holding-folder.result links held c.holding-folder.ensures in
    let after = holds_after reached in
    arrives (λ b. b.items) path c.args.place.now c.args.held reached c.in-Ok.ensures.ok c.into_bytes.ensures (record {
      source = c.new-source.result;
      before = _;
      after = _;
      files_are = ap texts_by_name c.new-source.ensures.files;
      runs = c.run_in_memory-reached.ensures.runs;
      leaves =
          λ argument run written. c.run_leaves_all_or_nothing.ensures run argument _ _ old new written before after;
      same = c.same_system_holds_the_same.ensures _ _ old new before after;
    })
