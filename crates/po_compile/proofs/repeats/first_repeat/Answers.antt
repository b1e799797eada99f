use Rattle.po_compile.proofs.Prelude.{arith, get_or, length-map, slice_texts}
use Rattle.po_compile.proofs.DistinctKeys.{is_key, key_of, no_key, one_more, repeated}
use Rattle.po_compile.proofs.repeats.first_repeat.Goals as goal

pub loop-later-preserved : goal.loop-later-preserved
loop-later-preserved c =
    let keys = c.args.keys.now in
    let i = c.loop-later.later in
    let inside = c.loop-later-test.true in
    one_more (slice_texts keys) i (get_or keys i no_key).now c.loop-later.seen c.add.new.self c.in_ok-first.first
    (omega (arith, inside, length-map keys key_of)) (is_key keys i inside) c.loop-later.invariant
    c.in_ok-first.ensures.seen c.in_ok-first.ensures.index c.if-first-later.false

pub returns-then-first-later : goal.returns-then-first-later
returns-then-first-later c =
    let keys = c.args.keys.now in
    let i = c.loop-later.later in
    let inside = c.loop-later-test.true in
    repeated (slice_texts keys) i (get_or keys i no_key).now c.loop-later.seen c.add.new.self c.in_ok-first.first
    (omega (arith, inside, length-map keys key_of)) (is_key keys i inside) c.loop-later.invariant
    c.in_ok-first.ensures.seen c.in_ok-first.ensures.index c.if-first-later.true
