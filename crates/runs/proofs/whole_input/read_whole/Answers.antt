use Rattle.runs.proofs.Prelude.{Consumes, arith, drop, drop-drop, drop-take, length, length-drop, places, rules, subst, sym, take, take_all, ◌+◌, ◌-◌, ◌∙◌, ◌≡◌, ◌≤◌}
use Rattle.runs.proofs.Devices.{filled-end, filled-more, front-after, front-before, taken-full}
use Rattle.runs.proofs.whole_input.read_whole.Goals as goal

pub loop-count-preserved : goal.loop-count-preserved
loop-count-preserved g c =
    let start = c.len-start.result in
    let count = c.loop-count.count in
    let xs = c.loop-count.bytes.items in
    let ys = c.pull_after.new.bytes.items in
    let front = c.in-Ok.ensures.front ∙ c.make_room.ensures.front in
    record {
      within = omega (arith, c.in-Ok.ensures.fits);
      limit = omega arith;
      before = front-before start count xs ys front ∙ c.loop-count.invariant.before;
      read = filled-more _ _ _ count c.in-Ok.more (drop start xs) (drop start ys) c.loop-count.invariant.read
          (front-after start count xs ys front) (rw drop-drop c.in-Ok.ensures.bytes);
      no_failure = omega (arith, c.in-Ok.ensures.fails);
      calls = omega (arith, c.in-Ok.ensures.counts);
    }

pub returns-in-Ok-eq0-clause-bytes : goal.returns-in-Ok-eq0-clause-bytes
returns-in-Ok-eq0-clause-bytes g c =
    let start = c.len-start.result in
    let count = c.loop-count.count in
    let xs = c.loop-count.bytes.items in
    let ys = c.pull_after.new.bytes.items in
    let fits : start + count ≤ length ys = search (rules, places) in
    rw (c.truncate.ensures.items, sym c.len-start.ensures, drop-take)
    (filled-end 2147483648 _ _ _ count _ (drop start xs) (drop start ys) c.loop-count.invariant.read
    (front-after start count xs ys (c.in-Ok-eq0.ensures.front ∙ c.make_room.ensures.front))
    (rw drop-drop c.in-Ok-eq0.ensures.bytes)
    c.in-Ok-eq0.field-0-test (c.in-Ok-eq0.ensures.end c.in-Ok-eq0.field-0-test)
    (omega (arith, fits, length-drop start ys)) (omega arith))

pub returns-in-Ok-eq0-clause-left : goal.returns-in-Ok-eq0-clause-left
returns-in-Ok-eq0-clause-left g c =
    let start = c.len-start.result in
    let count = c.loop-count.count in
    let xs = c.loop-count.bytes.items in
    let ys = c.pull_after.new.bytes.items in
    rw (c.truncate.ensures.items, sym c.len-start.ensures, drop-take)
    (subst (λ n. Consumes (g.R.ByteIn.remaining c.args.reader.now) (g.R.ByteIn.remaining c.pull_after.new.reader)
    (take n (drop start ys))) (omega (arith, c.in-Ok-eq0.field-0-test))
    (filled-more _ _ _ count c.in-Ok-eq0.field-0 (drop start xs) (drop start ys) c.loop-count.invariant.read
    (front-after start count xs ys (c.in-Ok-eq0.ensures.front ∙ c.make_room.ensures.front))
    (rw drop-drop c.in-Ok-eq0.ensures.bytes)))

pub returns-in-Err-clause-before : goal.returns-in-Err-clause-before
returns-in-Err-clause-before g c =
    let start = c.len-start.result in
    let count = c.loop-count.count in
    rw (sym c.len-start.ensures)
    (front-before start count c.loop-count.bytes.items c.pull_after.new.bytes.items
    (c.in-Err.ensures.front ∙ c.make_room.ensures.front) ∙ c.loop-count.invariant.before)

pub returns-clause-bytes : goal.returns-clause-bytes
returns-clause-bytes g c =
    let start = c.len-start.result in
    let read = drop start c.loop-count.bytes.items in
    let len : length read ≡ length c.loop-count.bytes.items - start = length-drop start c.loop-count.bytes.items in
    let fits : start + c.loop-count.count ≤ length c.loop-count.bytes.items = search (rules, places) in
    let few : length c.loop-count.bytes.items ≤ start + 2147483648 = search (rules, places) in
    rw (sym c.len-start.ensures)
    (taken-full 2147483648 _ _ read
    (rw (take_all c.loop-count.count read (omega (arith, len, fits, few))) at c.loop-count.invariant.read)
    (omega (arith, len, fits, few)))
