use Rattle.gettext.proofs.Prelude.{[], ap, bytes_eq, false, is_at, list_any, map, map-append, nat_cmp, not-false, not-true, slice_cmp, subst, sym, true, ◌++◌, ◌∙◌, ◌∷◌, ◌≡◌}
use Rattle.gettext.proofs.LocaleNames.{HasNames, distinct_more, one_name_more}
use Rattle.gettext.proofs.candidates.distinct.Goals as goal

pub loop-name-init : goal.loop-name-init
loop-name-init c = record {
  are_kept = ap (map (λ v. v.items)) c.new-kept.ensures.items;
  seen = λ q. ap (list_any (is_at (λ y. slice_cmp nat_cmp q.now y.now))) c.new-seen.ensures.empty
      ∙ sym (ap (λ items. list_any (λ known. bytes_eq known q.now) (map (λ v. v.items) items))
      c.new-kept.ensures.items);
}

pub loop-name-preserved-then-not-branch : goal.loop-name-preserved-then-not-branch
loop-name-preserved-then-not-branch c =
    let inv = c.loop-name.invariant in
    let kept = map (λ v. v.items) c.loop-name.kept.items in
    let known : list_any (λ known. bytes_eq known c.as_slice.result.now) kept ≡ true =
    sym (inv.seen c.as_slice.result) ∙ not-false _ (sym c.in_ok-insert.ensures.added ∙ c.if-not-branch.true) in
    let unchanged = (rw c.if-not-branch.true at c.in_ok-insert.ensures.unchanged) in
    record {
      are_kept = distinct_more c.args.names.now c.loop-name.name-index c.name-item.result kept true
          c.loop-name-test.true c.name-item.is inv.are_kept
          (ap (λ n. list_any (λ known. bytes_eq known n) kept) (sym c.as_slice.ensures.value) ∙ known);
      seen = λ q. ap (list_any (is_at (λ y. slice_cmp nat_cmp q.now y.now))) unchanged ∙ inv.seen q;
    }

pub loop-name-preserved : goal.loop-name-preserved
loop-name-preserved c =
    let inv = c.loop-name.invariant in
    let kept = map (λ v. v.items) c.loop-name.kept.items in
    let fresh : list_any (λ known. bytes_eq known c.as_slice.result.now) kept ≡ false =
    sym (inv.seen c.as_slice.result) ∙ not-true _ (sym c.in_ok-insert.ensures.added ∙ c.if-not-branch.false) in
    let same : c.in_ok-to_vec.field-0.items ≡ c.as_slice.result.now =
    c.in_ok-to_vec.ensures.items_if_clones_equal (λ x y e. e) ∙ c.as_slice-in-loop-name.ensures.value
    ∙ sym c.as_slice.ensures.value in
    let pushed : map (λ v. v.items) c.push.new.self.items ≡ kept ++ c.as_slice.result.now ∷ [] =
    ap (map (λ v. v.items)) c.in_ok-push.ensures.items
    ∙ map-append (λ v. v.items) c.loop-name.kept.items (c.in_ok-to_vec.field-0 ∷ [])
    ∙ ap (λ n. kept ++ n ∷ []) same in
    record {
      are_kept = pushed ∙ ap (λ n. kept ++ n ∷ []) c.as_slice.ensures.value
          ∙ distinct_more c.args.names.now c.loop-name.name-index c.name-item.result kept false c.loop-name-test.true
          c.name-item.is inv.are_kept
          (ap (λ n. list_any (λ known. bytes_eq known n) kept) (sym c.as_slice.ensures.value) ∙ fresh);
      seen = subst (HasNames c.insert.new.self) (sym pushed)
          (one_name_more c.loop-name.seen c.insert.new.self c.as_slice.result kept inv.seen
          c.in_ok-insert.ensures.updates.0);
    }
