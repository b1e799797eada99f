use Rattle.plural_rule.proofs.HeaderRules.{one_tree}
use Rattle.plural_rule.proofs.laws.one_tree.Goals as goal

pub returns : goal.returns
returns c = one_tree
