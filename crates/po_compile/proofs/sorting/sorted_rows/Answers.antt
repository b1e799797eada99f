use Rattle.po_compile.proofs.Prelude.{HasOneHeader, Row, answers_always, is_lt, key_cmp, map, nat_list_cmp_total, on_total, ranks_by, rising-answered, rising-from_sorted, row_key, rules}
use Rattle.std.proofs.lemmas.Iterator.{YieldsList-from_slice, cases_from_all}
use Rattle.po_compile.proofs.DistinctKeys.{headers_counted, inputs_apart, one_header_each, rising_apart, rows_apart, sorted_all, sorted_keys}
use Rattle.po_compile.proofs.sorting.sorted_rows.Goals.{else-is_sorted_by-via-else-is_sorted_by, else-is_sorted_by-via-then-is_sorted_by+else-all}
use Rattle.po_compile.proofs.sorting.sorted_rows.Goals as goal

pub returns-then-all : goal.returns-then-all
returns-then-all c =
    let inputs = c.args.inputs.now in
    let sorted = c.sort_unstable_by.new.self.items in
    let one = headers_counted inputs c.all.result
    (cases_from_all _ _ c.all.result HasOneHeader (λ messages. ¬ HasOneHeader messages)
    c.all.ensures.ran (YieldsList-from_slice inputs c.iter.ensures.rest) (λ x q k. search rules)
    (λ x q k. search rules)) in
    let risen = rising-answered row_key c.deref.result.now c.is_sorted_by.result
    (c.is_sorted_by.ensures.cases (λ a b. is_lt (key_cmp (row_key a) (row_key b)))
    (answers_always _ _ _ (λ f a r g h. search rules))) in
    let rising = rw c.deref.ensures.value at (risen.0 c.if-is_sorted_by.true) in
    let all = sorted_all inputs c.in_ok-rows.rows.items sorted c.in_ok-rows.ensures
    c.sort_unstable_by.ensures.permutation in
    record {
      rows = record { all = all; rising = rising };
      each = inputs_apart inputs (one.0 c.if-all.true)
          (sorted_keys inputs sorted all (rising_apart (map row_key sorted) rising));
      fault = search rules;
    }

pub unreachable-requires : goal.unreachable-requires
unreachable-requires c =
    let inputs = c.args.inputs.now in
    let rows = c.in_ok-rows.rows.items in
    let sorted = c.sort_unstable_by.new.self.items in
    let is_sorted = c.sort_unstable_by.ensures.sorted (λ a b. is_lt (key_cmp (row_key a) (row_key b)))
    (ranks_by (on_total row_key nat_list_cmp_total) (λ (row : Row). row))
    (answers_always _ _ _ (λ f a r g h. search rules)) in
    let rising = rising-from_sorted row_key sorted is_sorted
    (rows_apart inputs sorted
    (sorted_all inputs rows sorted c.in_ok-rows.ensures c.sort_unstable_by.ensures.permutation)
    c.in_ok-check_joined.ensures.apart) in
    elim c.else-is_sorted_by.branch [
      | else-is_sorted_by-via-then-is_sorted_by+else-all w ↦
          let one = (headers_counted inputs w.all.result (cases_from_all _ _ w.all.result HasOneHeader
          (λ messages. ¬ HasOneHeader messages) w.all.ensures.ran (YieldsList-from_slice inputs w.iter.ensures.rest)
          (λ x q k. search rules) (λ x q k. search rules))).1
          (one_header_each inputs c.in_ok-check_each.ensures.apart) in
          let isnt = w.if-all.false in cc (one, isnt)
      | else-is_sorted_by-via-else-is_sorted_by w ↦
          let risen = (rising-answered row_key c.deref.result.now c.is_sorted_by.result
          (c.is_sorted_by.ensures.cases (λ a b. is_lt (key_cmp (row_key a) (row_key b)))
          (answers_always _ _ _ (λ f a r g h. search rules)))).1 (rw c.deref.ensures.value rising) in
          let isnt = w.if-is_sorted_by.false in cc (risen, isnt)
    ]
