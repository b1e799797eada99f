use Rattle.mo_file.proofs.Prelude.{AreRising, IsTrue, is_lt, key_cmp, message, rules, subst, sym, ◌↔◌}
use Rattle.std.proofs.lemmas.List.Sorted.{answers_always}
use Rattle.mo_file.proofs.RisingKeys.{key_by, keys-by, rising-answered}
use Rattle.mo_file.proofs.pairs.are_rising.Goals as goal

pub returns : goal.returns
returns c =
    subst (λ ks. IsTrue c.is_sorted_by.result ↔ AreRising ks) (sym (keys-by message c.args.pairs.now))
    (rising-answered (key_by message) c.args.pairs.now _
    (c.is_sorted_by.ensures.cases (λ a b. is_lt (key_cmp (key_by message a) (key_by message b)))
    (answers_always _ _ _ (λ f a r g h. search rules))))
