use Rattle.plural_rule.proofs.Prelude.{[], ap, arith, held, reduce, sym, weight, ◌∙◌}
use Rattle.plural_rule.proofs.ParserSteps.{goes, short}
use Rattle.plural_rule.proofs.parser.reduce.Goals as goal

pub loop-top-preserved : goal.loop-top-preserved
loop-top-preserved c =
    let before = c.loop-top.parser in
    let popped = c.in-Some.ensures.0 in
    let done = c.complete-len.ensures in
    let room = c.loop-top.invariant.room in
    record {
      room = rw c.new-parser.ensures (omega (arith, ap weight popped, done.2, room.0), omega (arith, room.1));
      reduces = λ waiting tree h.
          rw (c.new-parser.ensures, done.0, done.1)
          ((goes c.args.next_level (held c.loop-top.room c.args.codes.now before) _
          (reduce c.args.next_level waiting tree) popped (c.loop-top.invariant.reduces waiting tree h)).0
          (sym c.binds.ensures ∙ c.if-not-binds.false)
          (short before.len c.loop-top.room (omega (arith, room.0, c.requires.room.0))));
    }

pub returns-then-not-binds-clause-reduced : goal.returns-then-not-binds-clause-reduced
returns-then-not-binds-clause-reduced c waiting tree h =
    (goes c.args.next_level (held c.loop-top.room c.args.codes.now c.loop-top.parser) _
    (reduce c.args.next_level waiting tree) c.in-Some.ensures.0 (c.loop-top.invariant.reduces waiting tree h)).1
    (sym c.binds.ensures ∙ c.if-not-binds.true)

pub returns-clause-reduced : goal.returns-clause-reduced
returns-clause-reduced c waiting tree h =
    goes c.args.next_level (held c.loop-top.room c.args.codes.now c.loop-top.parser) []
    (reduce c.args.next_level waiting tree) c.in_default.ensures (c.loop-top.invariant.reduces waiting tree h)

pub complete-len-requires : goal.complete-len-requires
complete-len-requires c = omega (arith, ap weight c.in-Some.ensures.0, c.loop-top.invariant.room.0, c.requires.room.0)

pub overflow_sub-parser : goal.overflow_sub-parser
overflow_sub-parser c = omega (arith, c.in-Some.ensures.2)

pub loop-top-smaller : goal.loop-top-smaller
loop-top-smaller c = rw c.new-parser.ensures (omega (arith, c.in-Some.ensures.2))
