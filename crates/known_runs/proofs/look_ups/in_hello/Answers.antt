use Rattle.known_runs.proofs.Prelude.{EndsLookUp, None, [], codes, contents, end, operands_of, refl, subst, sym, text_of}
use Rattle.known_runs.specs.declared.words.Words.{Words}
use Rattle.known_runs.proofs.CommandRuns.{holds_after, holds_before, holds_now}
use Rattle.known_runs.proofs.LookUps.{hello_ends}
use Rattle.known_runs.proofs.look_ups.in_hello.Goals as goal

pub returns : goal.returns
returns c = λ query asks.
    let result = c.run_in_memory-reached.result.0 in
    let reached = c.run_in_memory-reached.result.1 in
    let compiled = c.in_ok-compiled.ensures.exact in
    let old = contents [] None [] [] in
    let new = holds_now reached in
    let before = holds_before c.new-none.result [] None c.new-none.ensures in
    let after = holds_after reached in
    let words : Words = record { operands = c.args.operands; output = None } in
    let ends = hello_ends c.args.text.now c.as_slice.result.now c.in_ok-compiled.compiled
    (record { catalogues = compiled.catalogues; read = compiled.read; is = compiled.is_compiled })
    c.as_slice.ensures.value c.no_fault_of_mo_file.ensures c.one_message_list.ensures old new refl refl _ _
    (operands_of words) (text_of words) refl refl _ refl refl refl refl refl _ _ _ (λ reading read. read)
    (λ run r. c.run_leaves_all_or_nothing.ensures run (codes "-") _ _ old new r before after)
    (c.same_system_holds_the_same.ensures _ _ old new before after) asks result
    c.run_in_memory-reached.ensures.runs in
    subst (λ r. EndsLookUp c.args.text.now query (end r None new.out new.err)) (sym c.status_or_memory.ensures) ends
