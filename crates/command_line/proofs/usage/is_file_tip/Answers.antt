use Rattle.command_line.proofs.Prelude.{codes, starts_text, sym, takes_files, true, ◌∙◌, ◌≡◌}
use Rattle.command_line.proofs.usage.is_file_tip.Goals as goal

pub returns-then-takes_files : goal.returns-then-takes_files
returns-then-takes_files c =
    let files : takes_files c.args.tool ≡ true = sym c.takes_files.ensures ∙ c.if-takes_files.true in
    rw files (starts_text c.starts_with.result (codes "  tip: to pass '") c.args.line.now c.starts_with.ensures.cases)
