use Rattle.plural_rule.proofs.Prelude.{List, [], ap, arith, entries_in, held, length, length-drop, most_added, nil_from_length, rules, take_rest, weight, ℕ, ◌+◌, ◌<◌, ◌≡◌, ◌≢◌, ◌≤◌}
use Rattle.plural_rule.proofs.ParserSteps.{Reached, most-added, no-index, no-token, reached-end, reached-start, reached-token}
use Rattle.plural_rule.proofs.parser.parse_within.Goals as goal

nonempty : (text : List ℕ) → 0 < length text → text ≢ []
nonempty text h e = absurd (omega (arith, ap length e))

pub loop-rest-init : goal.loop-rest-init
loop-rest-init g c =
    record {
      reached = rw (c.without_blanks-rest.ensures.value, c.new-parser.ensures) (reached-start c.args.text.now);
      weight = rw c.new-parser.ensures (omega (arith, c.without_blanks-rest.ensures.shorter));
      count = rw c.new-parser.ensures (omega (arith, c.without_blanks-rest.ensures.shorter));
    }

pub returns-in_default : goal.returns-in_default
returns-in_default g c =
    let some : 0 < length c.loop-rest.rest.now = search rules in
    no-token c.args.text.now c.loop-rest.rest.now _ _ c.loop-rest.invariant.reached
    (nonempty c.loop-rest.rest.now some) c.in_default.ensures

pub take-requires : goal.take-requires
take-requires g c =
    let at = c.in-Some.ensures in
    let weight : c.loop-rest.parser.len + weight (entries_in c.loop-rest.codes c.loop-rest.parser.count)
    + most_added c.in-Some.token ≤ 4096 =
    omega (
      arith,
      most-added c.loop-rest.rest.now c.in-Some.token c.in-Some.token_len at,
      at.within,
      c.loop-rest.invariant.weight,
      c.requires.room,
      c.requires.limit,
    ) in
    record {
      room = (
        weight,
        omega (arith, at.some, at.within, c.loop-rest.invariant.count, c.requires.room),
        omega (arith, c.requires.limit),
      );
    }

pub returns-in_default-take : goal.returns-in_default-take
returns-in_default-take g c =
    let r = c.loop-rest.invariant.reached in
    no-index c.args.text.now c.loop-rest.rest.now c.in-Some.token c.in-Some.token_len _ _ _ _ r c.in-Some.ensures
    (c.in_default-take.ensures.step r.state r.represents)

pub loop-rest-preserved : goal.loop-rest-preserved
loop-rest-preserved g c =
    let r = c.loop-rest.invariant.reached in
    let n = c.in-Some.token_len in
    let at = c.in-Some.ensures in
    let after = c.without_blanks-rest-in-loop-rest.ensures in
    let took = c.in-Some-take.ensures in
    let part = take_rest c.loop-rest.rest.now n in
    record {
      reached =
          rw (after.value, part)
          (reached-token c.args.text.now c.loop-rest.rest.now c.in-Some.token n _ _ _ _ _ r at
          (took.step r.state r.represents));
      weight = omega (
        arith,
        took.room.0,
        c.loop-rest.invariant.weight,
        most-added c.loop-rest.rest.now c.in-Some.token n at,
        at.within,
        after.shorter,
        ap length part,
        length-drop n c.loop-rest.rest.now,
      );
      count = omega (
        arith,
        took.room.1,
        c.loop-rest.invariant.count,
        at.some,
        at.within,
        after.shorter,
        ap length part,
        length-drop n c.loop-rest.rest.now,
      );
    }

pub returns : goal.returns
returns g c =
    let none : c.loop-rest.rest.now ≡ [] = nil_from_length c.loop-rest.rest.now (search rules) in
    let r : Reached c.args.text.now []
    (held c.loop-rest.room c.loop-rest.codes c.loop-rest.parser) c.loop-rest.parser.complete =
    rw none at c.loop-rest.invariant.reached in
    reached-end c.args.text.now _ _ c.finish.new.room c.finish.result r
    (c.finish.ensures.tree r.state r.represents) c.finish.ensures.limit
