use Rattle.envsubst.proofs.Prelude.{ap, is_replaced, names_given, sym, ◌∙◌}
use Rattle.envsubst.proofs.Variables.{same-names}
use Rattle.envsubst.proofs.whole_input.sorted_names.Goals as goal

pub returns : goal.returns
returns c = λ name.
    let moved = c.sort_unstable_by.ensures.permutation in
    same-names c.in-Some.names.now _ (rw c.in_ok-sorted.ensures.items at moved) name
    ∙ sym (ap (λ only. is_replaced (names_given only) name) c.in-Some.is)
