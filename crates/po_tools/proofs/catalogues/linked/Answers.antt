use Rattle.po_tools.proofs.Prelude.{AreStored, HoldInputs, IfOk-weaker, Lacks, List, NamedEntry, TextEntry, [], all_entries, ap, ap₂, arith, input_view, inputs_view, length, length-map, map-append, refl, subst, sym, take, take_all, take_more, ◌++◌, ◌+◌, ◌∙◌, ◌∷◌, ◌≡◌}
use Rattle.msgcat.proofs.InputEntries.{entries_more, inputs_more}
use Rattle.po_tools.specs.declared.catalogues.Named.{Named as NamedCatalogue}
use Rattle.po_tools.proofs.catalogues.linked.Goals as goal

pub loop-input-init : goal.loop-input-init
loop-input-init c = rw (c.in_ok-read.ensures.items, c.new-store.ensures) (record {
  known = record { known = tt; starts = λ i inside. absurd (omega (arith, inside)) };
  all = refl;
})

pub loop-input-preserved : goal.loop-input-preserved
loop-input-preserved c =
    let inputs = c.args.inputs.now in
    let i = c.loop-input.input-index in
    let input = c.input-item.result in
    let one = input_view input in
    let so_far = c.loop-input.invariant in
    let before = inputs_view (take i inputs) in
    let more : inputs_view (take (i + 1) inputs) ≡ before ++ one ∷ [] =
    ap inputs_view (take_more inputs i input c.loop-input-test.true
    ∙ ap (λ (n : NamedCatalogue). take i inputs ++ n ∷ []) (sym c.input-item.is))
    ∙ map-append input_view (take i inputs) (input ∷ []) in
    let lacks : Lacks 0 input.name.now =
    subst (λ (n : NamedCatalogue). Lacks 0 n.name.now) (sym c.input-item.is)
    (c.requires i input c.loop-input-test.true) in
    let entries = c.entries-entries.ensures.entries in
    let known = c.of.ensures.known one refl lacks (ap length entries) in
    let start = c.of.ensures.start ∙ c.len-start.ensures ∙ ap length so_far.all
    ∙ length-map (all_entries before) (λ (e : NamedEntry). e.entry) in
    subst (λ l. AreStored l c.add_all.new.store c.push.new.self.items) (sym more) (record {
      known = inputs_more before c.loop-input.read.items c.push.new.self.items one c.of.result so_far.known known start
          c.in_ok-push.ensures.items;
      all = c.in_ok-add_all.ensures ∙ ap₂ (λ (a b : List TextEntry). a ++ b) so_far.all entries
          ∙ entries_more before one.name one.entries;
    })

pub of-requires-2 : goal.of-requires-2
of-requires-2 c = record {
  numbers = c.deref.ensures.value ∙ c.in_ok-numbers.ensures.numbers;
  count = c.in_ok-numbers.ensures.count;
}

pub returns : goal.returns
returns c =
    let read = inputs_view c.args.inputs.now in
    let are = subst (λ l. AreStored (inputs_view l) c.loop-input.store c.loop-input.read.items)
    (take_all c.loop-input.input-index c.args.inputs.now c.loop-input-test.false) c.loop-input.invariant in
    IfOk-weaker c.of-2.result _ (HoldInputs read) (λ held all. all read are.known are.all) c.of-2.ensures
