use Rattle.msgcat.proofs.Prelude.{AllDiffer, AreNumbered, MatchOption, RepeatsOnLines, ap, arith, filter, get_or, get_or_default, inr, is_live, length, length-drop, length-take, no_input, refl, subst, sym, with_part, ◌+◌, ◌∙◌}
use Rattle.msgcat.proofs.InputEntries.{AreLeft, all_left, left_after, none_left, own, own_count, own_numbered, own_places, repeating}
use Rattle.msgcat.proofs.inputs.check_inputs.Goals as goal

pub loop-input-init : goal.loop-input-init
loop-input-init c = record {
  most = omega arith;
  unseen = λ number. omega (arith, ap (λ l. get_or l number 0) c.new-seen.ensures.items);
  left = λ read part are.
      all_left read part c.args.places.now c.args.numbers.now are.places_are are.numbers_are;
}

pub repeated_lines-requires-clause-lengths : goal.repeated_lines-requires-clause-lengths
repeated_lines-requires-clause-lengths c =
    let read = c.requires.0 in
    let part = c.requires.1 in
    let are = c.requires.2 in
    let left = c.loop-input.invariant.left read part are in
    ap length c.split_at_most-in-loop-input.ensures.first
    ∙ own_count read part c.args.inputs.now c.loop-input.input-index
    (get_or c.args.inputs.now c.loop-input.input-index no_input) c.loop-input.places_left.now
    c.loop-input.numbers_left.now are.known c.loop-input-test.true
    (get_or_default c.args.inputs.now c.loop-input.input-index no_input
    (get_or c.args.inputs.now c.loop-input.input-index no_input) c.loop-input-test.true) left
    ∙ sym (ap length c.split_at_most.ensures.first)

pub returns-in-Some-clause-fault : goal.returns-in-Some-clause-fault
returns-in-Some-clause-fault c = λ read part are.
    let left = c.loop-input.invariant.left read part are in
    let i = c.loop-input.input-index in
    let inputs = c.args.inputs.now in
    let input = get_or inputs i no_input in
    let inside = c.loop-input-test.true in
    let here = get_or_default inputs i no_input input inside in
    let places = c.loop-input.places_left.now in
    let numbers = c.loop-input.numbers_left.now in
    let mine = own read part inputs i input places numbers are.known inside here left in
    let all = with_part read part in
    let list = filter is_live mine in
    let own_are = subst (AreNumbered all mine) (sym c.split_at_most-in-loop-input.ensures.first)
    (own_numbered read part inputs i input places numbers are.known inside here left) in
    let placed = c.split_at_most.ensures.first
    ∙ own_places read part inputs i input places numbers are.known inside here left in
    let found = subst (λ o. MatchOption o (AllDiffer list) (RepeatsOnLines list)) c.in-Some.is
    (c.in_ok-first.ensures.found all mine is_live own_are placed) in
    inr (repeating read part inputs i input places numbers are.known inside here left
    (c.in-Some.first, c.in-Some.line) _ found refl c.duplicate_at.ensures)

pub loop-input-preserved : goal.loop-input-preserved
loop-input-preserved c =
    let i = c.loop-input.input-index in
    let inputs = c.args.inputs.now in
    let input = get_or inputs i no_input in
    let places = c.loop-input.places_left.now in
    let numbers = c.loop-input.numbers_left.now in
    let first = ap length c.split_at_most.ensures.first ∙ length-take input.count places in
    let rest = ap length c.split_at_most.ensures.rest ∙ length-drop input.count places in
    record {
      most = omega (arith, c.loop-input.invariant.most, rest);
      unseen = λ number.
          omega (arith, c.in_ok-first.ensures.later number, c.loop-input.invariant.most, first, rest);
      left = λ read part are.
          let left = c.loop-input.invariant.left read part are in
          let inside = c.loop-input-test.true in
          let here = get_or_default inputs i no_input input inside in
          let mine = own read part inputs i input places numbers are.known inside here left in
          let list = filter is_live mine in
          let own_are = subst (AreNumbered (with_part read part) mine)
          (sym c.split_at_most-in-loop-input.ensures.first)
          (own_numbered read part inputs i input places numbers are.known inside here left) in
          let placed = c.split_at_most.ensures.first
          ∙ own_places read part inputs i input places numbers are.known inside here left in
          let differ = subst (λ o. MatchOption o (AllDiffer list) (RepeatsOnLines list)) c.in_default.is
          (c.in_ok-first.ensures.found (with_part read part) mine is_live own_are placed) in
          subst (λ l. AreLeft read part (i + 1) l c.split_at_most-in-loop-input.result.1.now)
          (sym c.split_at_most.ensures.rest)
          (subst (AreLeft read part (i + 1) _) (sym c.split_at_most-in-loop-input.ensures.rest)
          (left_after read part inputs i input places numbers are.known inside here left differ));
    }

pub returns-clause-distinct : goal.returns-clause-distinct
returns-clause-distinct c = λ read part are.
    none_left read part c.args.inputs.now c.loop-input.input-index c.loop-input.places_left.now
    c.loop-input.numbers_left.now are.known c.loop-input-test.false (c.loop-input.invariant.left read part are)
