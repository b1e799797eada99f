use Rattle.mo_expand.proofs.Prelude.{AreRising, IsTrue, answers_always, borrowed_message, is_lt, key_cmp, keys-by, rising-answered, rules, subst, sym, ◌↔◌}
use Rattle.mo_expand.proofs.ExpandedFiles.{listed_key}
use Rattle.mo_expand.proofs.sorted_file.are_rising.Goals as goal

pub returns : goal.returns
returns c =
    subst (λ ks. IsTrue c.is_sorted_by.result ↔ AreRising ks) (sym (keys-by borrowed_message c.args.list.now))
    (rising-answered listed_key c.args.list.now _
    (c.is_sorted_by.ensures.cases (λ a b. is_lt (key_cmp (listed_key a) (listed_key b)))
    (answers_always _ _ _ (λ f a r g h. search rules))))
