use Rattle.po_catalog.proofs.Prelude.{All-written, [], all_empty, arith, length, take_all, ◌<◌, ◌≡◌}
use Rattle.po_catalog.proofs.text_list.empty_texts.Goals as goal

pub loop-text-preserved : goal.loop-text-preserved
loop-text-preserved c =
    let below : c.loop-text.text-index < length c.loop-text.list = omega (arith, c.loop-text.auto.list) in
    All-written (λ v. v.items ≡ []) c.loop-text.list c.loop-text.text-index c.clear.new.self below c.loop-text.invariant
    c.clear.ensures.items

pub returns : goal.returns
returns c =
    let past = rw (← c.loop-text.auto.list) at c.loop-text-test.false in
    all_empty _ _ c.loop-text.auto.list (rw take_all at c.loop-text.invariant)
