use Rattle.plural_rule.proofs.Prelude.{[], action_of, ap, count_instruction, get_or, refl, sym, ◌+◌, ◌∙◌, ◌∷◌}
use Rattle.plural_rule.proofs.Programs.{acts, fused, operator-begins, operator-within}
use Rattle.plural_rule.proofs.evaluator.step.Goals as goal
use Rattle.plural_rule.proofs.evaluator.step.Goals.{in-Count, in-Number}

pub returns-in_default : goal.returns-in_default
returns-in_default c = record {
  next = λ room older o runs. rw c.action.ensures.counted
      (acts room c.args.count c.args.instructions.now c.args.index c.args.newest c.args.below older c.args.steps.now
      c.requires.inside runs c.action.ensures.action (c.act.ensures older).1);
  counted = c.action.ensures.counted;
  few = c.action.ensures.few;
  taken = (c.act.ensures []).0;
}

pub returns-in-Some-clause-next : goal.returns-in-Some-clause-next
returns-in-Some-clause-next c room older o runs =
    let code = c.args.instructions.now in
    let n = c.args.count in
    let i = c.args.index in
    let steps = c.action.new.steps in
    let next = get_or code (i + 1) (count_instruction 0) in
    let operator = ap action_of (sym c.instruction_at.ensures) ∙ c.in-Some.ensures in
    fused room n code (i + 1) c.args.newest steps _ (c.args.below ∷ older) _ (operator-begins next _ operator)
    (rw c.combined.ensures (acts room n code (i + 1) c.match-action.operand c.args.newest (c.args.below ∷ older) steps
    (operator-within code (i + 1) _ operator) (elim c.match-action.branch [
      | in-Count w ↦ rw (w.operand-is, c.action.ensures.counted) (acts room n code i c.args.newest c.args.below older
          c.args.steps.now c.requires.inside runs w.in-Count.ensures.action refl)
      | in-Number w ↦ rw (w.operand-is, c.action.ensures.counted) (acts room n code i c.args.newest c.args.below older
          c.args.steps.now c.requires.inside runs w.in-Number.ensures.action refl)
    ]) (sym operator) refl))
