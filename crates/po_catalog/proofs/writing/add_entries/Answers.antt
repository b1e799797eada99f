use Rattle.po_catalog.proofs.Prelude.{AreParts, TextEntry, [], ap, subst, sym, take, take_more, ◌++◌, ◌∙◌, ◌∷◌}
use Rattle.po_catalog.proofs.writing.add_entries.Goals as goal

pub loop-index-preserved : goal.loop-index-preserved
loop-index-preserved c =
    let store = c.args.store.now in
    let i = c.loop-index.index in
    let entry = c.get.result in
    subst (λ entries. AreParts entries c.add.new.self)
    (ap (λ (e : TextEntry). take i store ++ e ∷ []) (c.get.ensures.entry entry)
    ∙ sym (take_more store i entry (rw c.len-index-end.ensures at c.loop-index-test.true)))
    (c.in_ok-add.ensures.parts (take i store) c.loop-index.invariant)
