use Rattle.msgcat.proofs.Prelude.{List, [], ap, ap₂, arith, form_list, form_lists, joined_at, length, length-map, length_push, map, map-append, map-range_with_len_more, most_forms, range_with_len, rests, rules, suc, sym, texts, ℕ, ◌++◌, ◌+◌, ◌<◌, ◌∙◌, ◌∷◌, ◌≡◌}
use Rattle.msgcat.proofs.JoinedForms.{joined_rests, none_left, one_less}
use Rattle.msgcat.proofs.joined_translations.joined_forms.Goals as goal

pub returns-then-is_empty : goal.returns-then-is_empty
returns-then-is_empty c =
    let all = form_lists c.args.translations.items in
    let left = form_lists c.loop-forms.left.items in
    let inv = c.loop-forms.invariant in
    let none : length c.in_ok-form.rest.items ≡ 0 = search rules in
    let gone : length (rests left) ≡ 0 =
    omega (arith, none, ap length c.in_ok-form.ensures.rest, length-map c.in_ok-form.rest.items form_list) in
    let over : most_forms left ≡ 0 = none_left left gone in
    let count : length c.loop-forms.forms.items ≡ most_forms all = omega (arith, inv.counted, over) in
    inv.are_joined ∙ ap (λ n. map (λ i. joined_at i all) (range_with_len 0 n)) count

pub loop-forms-smaller : goal.loop-forms-smaller
loop-forms-smaller c =
    let left = form_lists c.loop-forms.left.items in
    let some : 0 < length c.in_ok-form.rest.items = search rules in
    let more : 0 < length (rests left) =
    omega (arith, some, ap length c.in_ok-form.ensures.rest, length-map c.in_ok-form.rest.items form_list) in
    omega (arith, one_less left more, ap most_forms c.in_ok-form.ensures.rest)

pub loop-forms-preserved : goal.loop-forms-preserved
loop-forms-preserved c =
    let all = form_lists c.args.translations.items in
    let left = form_lists c.loop-forms.left.items in
    let inv = c.loop-forms.invariant in
    let forms = c.loop-forms.forms.items in
    let n = length forms in
    let some : 0 < length c.in_ok-form.rest.items = search rules in
    let more : 0 < length (rests left) =
    omega (arith, some, ap length c.in_ok-form.ensures.rest, length-map c.in_ok-form.rest.items form_list) in
    let long : length c.push.new.self.items ≡ n + 1 =
    ap length c.in_ok-push.ensures.items ∙ length_push forms c.in_ok-form.form in
    let none_more : n + 0 ≡ n = omega arith in
    let form : c.in_ok-form.form.items ≡ joined_at n all =
    c.in_ok-form.ensures.form ∙ inv.others 0 ∙ ap (λ k. joined_at k all) none_more in
    record {
      are_joined = ap texts c.in_ok-push.ensures.items ∙ map-append (λ v. v.items) forms (c.in_ok-form.form ∷ [])
          ∙ ap₂ (λ (l : List (List ℕ)) (f : List ℕ). l ++ f ∷ []) inv.are_joined form
          ∙ sym (map-range_with_len_more (λ i. joined_at i all) 0 n n (omega arith))
          ∙ ap (λ k. map (λ i. joined_at i all) (range_with_len 0 k)) (sym long);
      others = λ j.
          let next : n + suc j ≡ length c.push.new.self.items + j = omega (arith, long) in
          ap (joined_at j) c.in_ok-form.ensures.rest ∙ joined_rests j left ∙ inv.others (suc j)
          ∙ ap (λ k. joined_at k all) next;
      counted = omega (arith, inv.counted, long, one_less left more, ap most_forms c.in_ok-form.ensures.rest);
    }
