use Rattle.plural_rule.proofs.Prelude.{Instruction, [], add-one, ap, arith, begins, drop, drop-cons, drop_all, le-ltb, length, length-program, lt-ltb, nodes, refl, slice_index_or, ◌≡◌}
use Rattle.plural_rule.proofs.Programs.{all_begin, all_begin-program, nodes-positive, nodes-le-size}
use Rattle.plural_rule.proofs.rule.Rule.nodes.Goals as goal
use Rattle.plural_rule.proofs.rule.Rule.nodes.Goals.{then-instruction-lt3, else-instruction-lt3}

abbrev none : Instruction
none = record { kind = 0; operator = 0; count = 0; number = 0 }

pub loop-instruction-init : goal.loop-instruction-init
loop-instruction-init c = record {
  all = omega (arith, ap all_begin c.program-instructions.ensures.program, all_begin-program c.args.self.now.tree 0 []);
  fits = omega arith;
}

pub loop-instruction-preserved : goal.loop-instruction-preserved
loop-instruction-preserved c =
    let code = c.program-instructions.result.now in
    let i = c.loop-instruction.instruction-index in
    let next = ap all_begin (drop-cons code i none c.loop-instruction-test.true) in
    let more = ap (λ k. all_begin (drop k code)) (add-one i) in
    let item = slice_index_or code i none in
    let all = c.loop-instruction.invariant.all in
    elim c.if-instruction-lt3.branch [
      | then-instruction-lt3 w ↦
          let begun : begins item ≡ item.count = rw (lt-ltb _ _ w.if-instruction-lt3.true) refl in
          record { all = omega (arith, next, more, begun, w.count-is, all); fits = omega arith }
      | else-instruction-lt3 w ↦
          let begun : begins item ≡ 0 = rw (le-ltb _ _ w.if-instruction-lt3.false) refl in
          record { all = omega (arith, next, more, begun, w.count-is, all); fits = omega arith }
    ]

pub returns : goal.returns
returns c =
    let tree = c.args.self.now.tree in
    let code = c.program-instructions.ensures in
    let rest = drop_all c.loop-instruction.instruction-index c.program-instructions.result.now
    c.loop-instruction-test.false in
    let all : c.loop-instruction.count ≡ nodes tree = omega
    (arith, c.loop-instruction.invariant.all, ap all_begin rest) in
    record {
      value = all;
      limit = omega
          (arith, all, nodes-le-size tree, ap length code.program, length-program tree 0, code.limit);
      some = omega (arith, all, nodes-positive tree);
    }
