use Rattle.command_line.proofs.Prelude.{IfOk-weaker, append_assoc, ◌∙◌}
use Rattle.command_line.proofs.tips.tip_on.Goals as goal

pub returns : goal.returns
returns c = IfOk-weaker c.format.result _ _ (λ tip is. is ∙ simp append_assoc) c.format.ensures.ok
