use Rattle.plural_rule.proofs.Prelude.{Instruction, List, None, Option, Outcome, Some, Tree, [], ap, arith, drop, drop_all, length, length-drop, length-program, nodes, program, run, size, stored, sym, tree_of, value, visited, ℕ, ◌+◌, ◌-◌, ◌<◌, ◌∙◌, ◌∷◌, ◌≡◌, ◌≤◌}
use Rattle.plural_rule.proofs.HeaderRules.{visited_le_nodes}
use Rattle.plural_rule.specs.Internal.Evaluator.{outcome}
use Rattle.plural_rule.proofs.Programs.{nodes-le-size, ready, skips, starts, stored-cons}
use Rattle.plural_rule.proofs.evaluator.evaluate_within.Goals as goal

told : (p : List Instruction) (t : Tree) (n before : ℕ) (v : Option ℕ) (s : ℕ) → p ≡ program 0 t
    → Some (record { value = v; steps = s }) ≡ Some (outcome t n before)
    → record {
      value : v ≡ value t n;
      steps : s ≡ before + visited t n;
      bound : s ≤ before + nodes t;
      few : s ≤ before + length p;
    }
told p t n before v s is e =
    let both : record { value = v; steps = s } ≡ outcome t n before = cc in
    let same = ap (λ (o : Outcome). o.steps) both in
    let value = ap (λ (o : Outcome). o.value) both in
    let bound : s ≤ before + nodes t = omega (arith, same, visited_le_nodes t n) in
    let long : length p ≡ size t = ap length is ∙ length-program t 0 [] ∙ omega arith in
    record { value = value; steps = same; bound = bound; few = omega (arith, bound, long, nodes-le-size t) }

pub loop-index-init : goal.loop-index-init
loop-index-init g c = record {
  runs = starts g.row.N c.args.count _ _ c.args.steps.now c.args.instructions.now
      (tree_of c.args.instructions.now) c.requires.program c.requires.room;
  some = λ h. omega arith;
  inside = λ h. omega (arith, c.requires.room);
  bound = omega (arith, c.requires.start);
}

pub returns-in_default : goal.returns-in_default
returns-in_default g c =
    let loop = c.loop-index in
    let before = ap (λ vs. run g.row.N c.args.count (drop loop.index c.args.instructions.now) 0
    (loop.newest ∷ vs) loop.steps)
    (sym (stored-cons loop.stack loop.len (loop.invariant.some c.loop-index-test.true)))
    ∙ loop.invariant.runs in
    let on = c.step-value.ensures.next g.row.N (stored loop.stack (loop.len - 1)) _ before in
    told _ _ _ _ None _ c.requires.program (rw c.in_default.is at on)

pub loop-index-preserved : goal.loop-index-preserved
loop-index-preserved g c =
    let loop = c.loop-index in
    let code = c.args.instructions.now in
    let e = c.step-value.result in
    let i = loop.index + 1 in
    let some = loop.invariant.some c.loop-index-test.true in
    let before = ap (λ vs. run g.row.N c.args.count (drop loop.index code) 0 (loop.newest ∷ vs) loop.steps)
    (sym (stored-cons loop.stack loop.len some)) ∙ loop.invariant.runs in
    let on = rw c.in-Some.is at
    (c.step-value.ensures.next g.row.N (stored loop.stack (loop.len - 1)) _ before) in
    let runs = ap (λ vs. run g.row.N c.args.count (drop (i + e.2) code) 0 (c.in-Some.value ∷ vs) c.step-value.new.steps)
    (c.keep-len.ensures ∙ ap (λ vs. drop e.1 (loop.newest ∷ vs)) (stored-cons loop.stack loop.len some))
    ∙ skips g.row.N c.args.count code i e.2 _ _ on in
    let after = λ (h : i + e.2 < length code). ready g.row.N c.args.count (drop (i + e.2) code) _ _ _ _
    (omega (arith, h, length-drop (i + e.2) code)) runs in
    record {
      runs = runs;
      some = λ h. (after h).some;
      inside = λ h. (after h).inside;
      bound = omega (arith, loop.invariant.bound, c.step-value.ensures.few);
    }

pub returns : goal.returns
returns g c =
    let loop = c.loop-index in
    told _ _ _ _ (Some loop.newest) loop.steps c.requires.program
    (ap (λ p. run g.row.N c.args.count p 0 (loop.newest ∷ stored loop.stack loop.len) loop.steps)
    (sym (drop_all loop.index c.args.instructions.now c.loop-index-test.false)) ∙ loop.invariant.runs)
