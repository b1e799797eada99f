use Rattle.po_entry.proofs.Prelude.{[], ap, arith, key_bytes, key_writes, length, sym, take, take_more, ◌++◌, ◌+◌, ◌<◌, ◌∙◌, ◌∷◌}
use Rattle.po_entry.proofs.MessageKeys.{digest_more}
use Rattle.po_entry.proofs.keys.digest_of.Goals as goal

pub loop-index-preserved : goal.loop-index-preserved
loop-index-preserved c =
    let store = c.args.store.now in
    let index = c.loop-index.index in
    let inside : index < length store = omega (arith, c.loop-index-test.true, c.len-index-end.ensures) in
    rw (c.write.ensures, c.write_usize.ensures, c.loop-index.invariant, c.key-key.ensures)
    (sym (digest_more (λ entry. key_writes (key_bytes entry.context entry.id)) (take index store)
    (take (index + 1) store) c.get.result (take_more store index c.get.result inside
    ∙ ap (λ entry. take index store ++ entry ∷ []) (sym (c.get.ensures.entry c.get.result)))))
