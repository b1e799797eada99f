use Rattle.mo_expand.proofs.Prelude.{BorrowedPair, answers_always, is_lt, key_cmp, nat_list_cmp_total, on_total, ranks_by, rules}
use Rattle.mo_expand.proofs.ExpandedFiles.{listed_key}
use Rattle.mo_expand.proofs.sorted_file.sort.Goals as goal

pub returns-clause-sorted : goal.returns-clause-sorted
returns-clause-sorted c =
    let total = on_total listed_key nat_list_cmp_total in
    c.sort_unstable_by.ensures.sorted (λ a b. is_lt (key_cmp (listed_key a) (listed_key b)))
    (ranks_by total (λ (m : BorrowedPair). m))
    (answers_always _ _ _ (λ f a r g h. search rules))
