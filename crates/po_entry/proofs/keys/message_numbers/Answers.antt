use Rattle.po_entry.proofs.Prelude.{arith, length, subst, sym, take_all, ◌<◌, ◌∙◌, ◌≤◌}
use Rattle.po_entry.proofs.MessageKeys.{AreSeen, all_counted, all_numbered, seen_more}
use Rattle.po_entry.proofs.keys.message_numbers.Goals as goal

pub loop-index-preserved : goal.loop-index-preserved
loop-index-preserved c =
    let inside : c.loop-index.index < length c.args.store.now =
    omega (arith, c.loop-index-test.true, c.len-index-end.ensures) in
    subst (AreSeen _ c.add.new.self) (sym c.in_ok-push.ensures.items)
    (seen_more c.args.store.now c.loop-index.index c.get.result c.loop-index.seen c.add.new.self
    c.loop-index.numbers.items c.key.result.now c.in_ok-number.number inside c.loop-index.invariant
    (c.get.ensures.entry c.get.result) c.get.ensures.valid c.key.ensures c.in_ok-number.ensures.seen
    c.in_ok-number.ensures.index)

pub returns : goal.returns
returns c =
    let past : length c.args.store.now ≤ c.loop-index.index =
    omega (arith, c.loop-index-test.false, c.len-index-end.ensures) in
    let whole = subst (λ l. AreSeen l c.loop-index.seen c.loop-index.numbers.items)
    (take_all c.loop-index.index c.args.store.now past) c.loop-index.invariant in
    record {
      numbers = all_numbered c.args.store.now c.loop-index.seen c.loop-index.numbers.items whole;
      count = c.len-3.ensures ∙ all_counted c.args.store.now c.loop-index.seen c.loop-index.numbers.items whole;
    }
