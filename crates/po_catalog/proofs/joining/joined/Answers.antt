use Rattle.po_catalog.proofs.Prelude.{ap, get_or, input_entries, is_live_header, rules, sym, ◌∙◌}
use Rattle.std.proofs.lemmas.Iterator.{YieldsList-from_slice}
use Rattle.std.proofs.lemmas.Iterator.Search.{any_from_yields_List}
use Rattle.po_entry.proofs.JoinedLists.{valid_more, whole_more}
use Rattle.po_catalog.proofs.joining.joined.Goals as goal

pub loop-input-preserved : goal.loop-input-preserved
loop-input-preserved c =
    let some = any_from_yields_List is_live_header _ _ c.any-headed.result c.any-headed.ensures.ran
    (YieldsList-from_slice c.entries-entries.result.now c.iter.ensures.rest) (λ x b q k. search rules) in
    record {
      whole = whole_more (input_entries c.loop-input.joined.items) _ c.loop-input.input c.loop-input.headed
          c.any-headed.result c.entries-entries.result.now c.args.catalogues.now c.loop-input-test.true
          (c.entries-entries.ensures.entries ∙ c.index-catalogues-input.is
          ∙ ap (get_or c.args.catalogues.now c.loop-input.input) (sym c.entries-entries.ensures.entries))
          c.in_ok-add_entries.ensures some
          ∙ c.loop-input.invariant.whole;
      valid = valid_more (input_entries c.loop-input.joined.items) _ c.loop-input.input c.loop-input.headed
          c.entries-entries.result.now c.in_ok-add_entries.ensures c.loop-input.invariant.valid
          c.entries-entries.ensures.valid;
    }
