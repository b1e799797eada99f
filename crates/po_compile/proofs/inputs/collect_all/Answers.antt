use Rattle.po_compile.proofs.Prelude.{AreCollected, Bor, EachApart, IsReadingFault, List, [], ap, arith, drop, err_from_is_err_and, get_or, length, length-map, length-take, slice_texts, subst, suc, sym, take, ℕ, ◌++◌, ◌+◌, ◌∙◌, ◌∷◌}
use Rattle.po_compile.proofs.CollectedInputs.{collected_count, collected_more, each_refused, more_texts, no_text, refused_input, split_texts, text_fault}
use Rattle.po_compile.proofs.DistinctKeys.{read_distinct}
use Rattle.po_compile.proofs.inputs.collect_all.Goals as goal

pub loop-input-preserved : goal.loop-input-preserved
loop-input-preserved c =
    let texts = c.args.texts.now in
    let i = c.loop-input.input in
    let text = get_or texts i no_text in
    let inputs = c.loop-input.inputs.items in
    let more = collected_more c.args.use_fuzzy c.entries_can_stand.ensures
    (slice_texts (take i texts)) inputs text.now c.in-Ok.collected c.loop-input.invariant c.in-Ok.ensures.found in
    subst (AreCollected c.args.use_fuzzy (slice_texts (take (i + 1) texts))) (sym c.in_ok-push-in-Ok.ensures.items)
    (subst (λ ts. AreCollected c.args.use_fuzzy ts (inputs ++ c.in-Ok.collected ∷ []))
    (sym (more_texts texts i c.loop-input-test.true)) more)

pub check_each-requires : goal.check_each-requires
check_each-requires c =
    let texts = c.args.texts.now in
    let so_far = take c.loop-input.input texts in
    let each = collected_count c.args.use_fuzzy (slice_texts so_far) c.loop-input.inputs.items c.loop-input.invariant in
    let same = ap length c.deref.ensures.value in
    omega (
      arith,
      each,
      same,
      length-map so_far (λ (s : Bor (List ℕ)). s.now),
      length-take c.loop-input.input texts,
      c.requires,
    )

pub returns-in-Err-clause-fault : goal.returns-in-Err-clause-fault
returns-in-Err-clause-fault c =
    let texts = c.args.texts.now in
    let i = c.loop-input.input in
    let text = get_or texts i no_text in
    let of = c.loop-input.invariant in
    let apart = subst EachApart (c.deref.ensures.value ∙ of.held.messages) c.in_ok-check_each-in-Err.ensures.apart in
    rw c.fault_of_input.ensures
    (refused_input texts i c.loop-input-test.true of.catalogues c.in-Err.error
    (read_distinct c.args.use_fuzzy (slice_texts (take i texts)) of.catalogues of.read apart)
    (text_fault text.now c.in-Err.error c.in-Err.ensures.fault))

pub returns-in_err-check_each-in-Err-clause-fault : goal.returns-in_err-check_each-in-Err-clause-fault
returns-in_err-check_each-in-Err-clause-fault c =
    let texts = c.args.texts.now in
    let i = c.loop-input.input in
    let text = get_or texts i no_text in
    let of = c.loop-input.invariant in
    let error = c.in_err-check_each-in-Err.field-0.0 in
    let why = rw c.deref.ensures.value at c.in_err-check_each-in-Err.ensures.fault in
    let refused = each_refused c.args.use_fuzzy (slice_texts (take i texts))
    (text.now ∷ slice_texts (drop (suc i) texts)) of.catalogues c.loop-input.inputs.items of.read of.held error
    why in
    let p = err_from_is_err_and c.from_residual-in_err-check_each-in-Err.result
    c.from_residual-in_err-check_each-in-Err.ensures.1 in
    rw (p.1, p.2) (subst (λ ts. IsReadingFault ts error) (sym (split_texts texts i c.loop-input-test.true)) refused)
