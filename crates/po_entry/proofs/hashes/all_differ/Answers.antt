use Rattle.po_entry.proofs.Prelude.{IsStrictlyIncreasing, IsTrue, answers_always, nat_lt, rules, subst, ◌↔◌}
use Rattle.po_entry.proofs.MessageKeys.{differ_from_rising, rising_answered, rising_from_differ}
use Rattle.po_entry.proofs.hashes.all_differ.Goals as goal

pub returns : goal.returns
returns c =
    let old = c.args.numbers.items in
    let sorted = c.sort_unstable.new.self.items in
    let permuted = c.sort_unstable.ensures.permutation in
    let answered = subst (λ numbers. IsTrue c.is_sorted_by.result ↔ IsStrictlyIncreasing numbers) c.deref.ensures.value
    (rising_answered c.deref.result.now c.is_sorted_by.result
    (c.is_sorted_by.ensures.cases (λ a b. nat_lt a b) (answers_always _ _ _ (λ f a r g h. search rules)))) in (
      λ yes. differ_from_rising old sorted permuted (answered.0 yes),
      λ differ. answered.1 (rising_from_differ old sorted permuted c.sort_unstable.ensures.sorted differ),
    )
