use Rattle.plural_rule.proofs.Prelude.{Default, NoNumber, ap, arith, default_rule, program, refl, sym, tree_of-program}
use Rattle.plural_rule.proofs.rule.Rule.of_no_header.Goals as goal

pub invariant_of-result : goal.invariant_of-result
invariant_of-result c = record {
  limit = omega arith;
  program_is = ap (program 0) (sym (tree_of-program (default_rule NoNumber).tree));
}

pub returns : goal.returns
returns c = (
  refl,
  ap (λ t. record { source = Default NoNumber; nplurals = 2; tree = t })
      (tree_of-program (default_rule NoNumber).tree),
)
