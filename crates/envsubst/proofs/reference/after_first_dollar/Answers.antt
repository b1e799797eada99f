use Rattle.envsubst.proofs.Prelude.{take_rest}
use Rattle.envsubst.proofs.Variables.{names-next, names-none}
use Rattle.envsubst.proofs.reference.after_first_dollar.Goals as goal

pub returns-then-plain-text-clause-names : goal.returns-then-plain-text-clause-names
returns-then-plain-text-clause-names c =
    simp take_rest (names-next c.args.text.now c.len_before-plain.result c.len_before-plain.ensures.index
    c.if-plain-text.true)

pub returns-else-plain-text-clause-none : goal.returns-else-plain-text-clause-none
returns-else-plain-text-clause-none c =
    names-none c.args.text.now c.len_before-plain.result c.len_before-plain.ensures.index c.if-plain-text.false
