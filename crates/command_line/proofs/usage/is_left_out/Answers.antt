use Rattle.command_line.proofs.Prelude.{codes, false, nat_eq, starts_text, starts_with, sym, ◌∙◌, ◌≡◌}
use Rattle.command_line.proofs.usage.is_left_out.Goals as goal

pub returns-else-starts_with : goal.returns-else-starts_with
returns-else-starts_with c =
    let first = starts_text c.starts_with.result (codes "  tip: ") c.args.line.now c.starts_with.ensures.cases in
    let no_tip : starts_with nat_eq c.args.line.now (codes "  tip: ") ≡ false = sym first ∙ c.if-starts_with.false in
    let further = c.starts_with-else-starts_with in
    rw no_tip (starts_text further.result (codes "       pokit ") c.args.line.now further.ensures.cases)
