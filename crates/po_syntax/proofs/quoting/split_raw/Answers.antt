use Rattle.po_syntax.proofs.Prelude.{List, YieldsList-from_slice, YieldsList-from_take_while, ap, ap₂, arith, count_from_yields_List, is_raw, length, length-prefix_len, prefix_len, rules, sym, take-append-drop, tests, ℕ, ◌++◌, ◌+◌, ◌∙◌, ◌≡◌}
use Rattle.std.proofs.lemmas.List.{length-append}
use Rattle.po_syntax.proofs.QuotedForms.{raw_append, written_prefix}
use Rattle.po_syntax.proofs.quoting.split_raw.Goals as goal

pub loop-block-preserved : goal.loop-block-preserved
loop-block-preserved c =
    let before = c.loop-block.invariant in
    let block = c.in-Some.block.now in
    let after = c.in-Some.after.now in
    let cut = c.in-Some.ensures.cases in
    let whole : c.loop-block.rest.now ≡ block ++ after =
    sym (take-append-drop 16 c.loop-block.rest.now) ∙ ap₂ (λ (l m : List ℕ). l ++ m) (sym cut.0) (sym cut.1) in
    let count : prefix_len is_raw c.loop-block.rest.now ≡ length block + prefix_len is_raw after =
    ap (prefix_len is_raw) whole ∙ raw_append block after (c.is_raw_block.ensures c.if-not-is_raw_block.false) in
    record {
      count = omega (arith, before.count, count, ap length whole, length-append block after, cut.2);
      within = omega (arith, before.within, cut.2);
    }

pub returns-clause-raw : goal.returns-clause-raw
returns-clause-raw c =
    let rest = c.loop-block.rest.now in
    let count = count_from_yields_List c.take_while.result _ c.count-count.ensures.ran
    (YieldsList-from_take_while _ is_raw (YieldsList-from_slice rest cc) c.take_while.ensures.closure
    c.take_while.ensures.done (λ x b q k. search (rules, tests)))
    ∙ length-prefix_len is_raw rest in
    rw c.split_at.ensures.front
    (written_prefix c.args.bytes.now _
    (omega (arith, count, c.loop-block.invariant.count, c.loop-block.invariant.within)))
