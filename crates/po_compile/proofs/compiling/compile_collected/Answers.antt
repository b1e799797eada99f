use Rattle.po_compile.proofs.Prelude.{IsBuildFault, IsMoFile, ap, arith, borrowed_message, compiled_list, counts_of, err_from_is_err_and, inl, joined_entries, layout, length, length-map, messages_of_borrowed, refl, subst, sym, ◌<◌, ◌^◌, ◌∙◌}
use Rattle.po_compile.proofs.CollectedInputs.{build_refused, inputs_refused, pairs_are, sorted_read}
use Rattle.po_compile.proofs.JoinedRows.{joined_valid}
use Rattle.po_compile.proofs.SortedMessages.{compiled_valid, count_below_layout, counts_mean}
use Rattle.po_compile.proofs.compiling.compile_collected.Goals as goal

pub overflow_cast-result : goal.overflow_cast-result
overflow_cast-result c =
    let order = c.args.options.order in
    let pairs = c.in_ok-pairs.pairs.items in
    let fits = subst (λ ms. length (layout order ms) < 2 ^ 32)
    (ap messages_of_borrowed c.deref-3.ensures.value) c.in-Ok.ensures.fits in
    omega (
      arith,
      fits,
      count_below_layout order (messages_of_borrowed pairs),
      length-map pairs borrowed_message,
      c.len-count.ensures,
      c.in_ok-pairs.pairs.ok.0,
    )

pub returns-in-Ok-clause-found : goal.returns-in-Ok-clause-found
returns-in-Ok-clause-found c = λ texts of.
    let use_fuzzy = c.args.options.use_fuzzy in
    let inputs = c.args.inputs.now in
    let entries = joined_entries of.catalogues in
    let order = c.args.options.order in
    let rows = c.in_ok-rows.rows.items in
    let messages = messages_of_borrowed c.in_ok-pairs.pairs.items in
    let list = compiled_list use_fuzzy entries in
    let sorted = c.in_ok-rows.ensures.rows in
    let are = pairs_are use_fuzzy texts inputs rows of sorted messages messages
    (rw c.deref.ensures.value at c.in_ok-pairs.ensures) refl in
    let pairs = ap messages_of_borrowed c.deref-3.ensures.value in
    let bytes = c.in-Ok.ensures.layout ∙ ap (layout order) pairs in
    let fits = subst (λ ms. length (layout order ms) < 2 ^ 32) pairs c.in-Ok.ensures.fits in (
      sorted_read use_fuzzy texts inputs rows of c.in_ok-rows.ensures.each sorted,
      record {
        laid_out = record { messages = messages; are_messages = are; small = fits };
        bytes = bytes;
        valid = subst (λ b. IsMoFile order b messages) (sym bytes)
            (c.layout_is_mo_file.ensures order messages are.rising fits);
        means = c.messages_mean_entries.ensures list messages
            (compiled_valid use_fuzzy entries (joined_valid of.catalogues of.held.valid)) are;
        count = omega (
          arith,
          c.len-count.ensures,
          c.in_ok-pairs.pairs.ok.0,
          length-map c.in_ok-pairs.pairs.items borrowed_message,
        );
      },
    )

pub returns-in-Ok-clause-statistics : goal.returns-in-Ok-clause-statistics
returns-in-Ok-clause-statistics c = λ texts of.
    c.statistics_of-stats.ensures ∙ ap counts_of c.deref-2.ensures.value
    ∙ counts_mean c.args.options.use_fuzzy of.catalogues c.args.inputs.now c.in_ok-rows.rows.items of.held
    c.in_ok-rows.ensures.rows

pub build_sorted-requires : goal.build_sorted-requires
build_sorted-requires c =
    (pairs_are c.args.options.use_fuzzy c.requires.read.0 c.args.inputs.now c.in_ok-rows.rows.items c.requires.read.1
    c.in_ok-rows.ensures.rows (messages_of_borrowed c.in_ok-pairs.pairs.items)
    (messages_of_borrowed c.deref-3.result.now)
    (rw c.deref.ensures.value at c.in_ok-pairs.ensures) (ap messages_of_borrowed c.deref-3.ensures.value)).rising

pub reported_fault-requires : goal.reported_fault-requires
reported_fault-requires c = λ same.
    let are = pairs_are c.args.options.use_fuzzy c.requires.read.0 c.args.inputs.now c.in_ok-rows.rows.items
    c.requires.read.1 c.in_ok-rows.ensures.rows (messages_of_borrowed c.in_ok-pairs.pairs.items)
    (messages_of_borrowed c.deref-3.result.now)
    (rw c.deref.ensures.value at c.in_ok-pairs.ensures) (ap messages_of_borrowed c.deref-3.ensures.value) in
    (subst (IsBuildFault c.args.options.order (messages_of_borrowed c.deref-3.result.now)) same
    c.in-Err.ensures.fault).1 are.rising

pub returns-in_err-rows-clause-fault : goal.returns-in_err-rows-clause-fault
returns-in_err-rows-clause-fault c =
    let p = err_from_is_err_and c.from_residual.result c.from_residual.ensures.1 in
    rw (p.1, p.2) (λ texts of.
    inl (inputs_refused c.args.options.use_fuzzy texts of.catalogues c.args.inputs.now c.in_err-rows.field-0.0
    of.read of.held c.in_err-rows.ensures.fault))

pub returns-clause-fault : goal.returns-clause-fault
returns-clause-fault c = λ texts of.
    let use_fuzzy = c.args.options.use_fuzzy in
    let rows = c.in_ok-rows.rows.items in
    let sorted = c.in_ok-rows.ensures.rows in
    let given = messages_of_borrowed c.deref-3.result.now in
    let are = pairs_are use_fuzzy texts c.args.inputs.now rows of sorted
    (messages_of_borrowed c.in_ok-pairs.pairs.items) given (rw c.deref.ensures.value at c.in_ok-pairs.ensures)
    (ap messages_of_borrowed c.deref-3.ensures.value) in
    build_refused c.args.options texts of.catalogues given c.in-Err.error c.reported_fault.result
    (sorted_read use_fuzzy texts c.args.inputs.now rows of c.in_ok-rows.ensures.each sorted) are
    c.in-Err.ensures.fault c.reported_fault.ensures
