use Rattle.msgcat.proofs.Prelude.{all_entries, arith, length, subst, take, ◌+◌, ◌<◌, ◌≡◌}
use Rattle.msgcat.proofs.InputEntries.{begins_first, name_found}
use Rattle.msgcat.proofs.merge_inputs.name_at.Goals as goal

pub loop-end-init : goal.loop-end-init
loop-end-init c = record {
  inside = omega arith;
  some = omega arith;
  begins = λ read are inside. begins_first read c.args.inputs.now c.args.index are inside;
}

pub returns-then-first-inputs : goal.returns-then-first-inputs
returns-then-first-inputs c = λ read are inside.
    let h = c.loop-end.invariant.begins read are inside in
    let last : c.loop-end.end ≡ c.loop-end.first + 1 = omega (arith, h.0, c.loop-end-test.false) in
    name_found read c.args.inputs.now are c.args.index c.loop-end.first c.if-first-inputs.true h.1
    (subst (λ n. c.args.index < length (all_entries (take n read))) last h.2)
