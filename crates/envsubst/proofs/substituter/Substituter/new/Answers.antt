use Rattle.envsubst.proofs.Prelude.{ap, is_undecided, ◌∙◌}
use Rattle.envsubst.proofs.References.{nothing-undecided}
use Rattle.envsubst.proofs.substituter.Substituter.new.Goals as goal

pub invariant_of-result : goal.invariant_of-result
invariant_of-result c = ap is_undecided c.new-2.ensures ∙ nothing-undecided
