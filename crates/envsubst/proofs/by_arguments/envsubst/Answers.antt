use Rattle.envsubst.proofs.Prelude.{OutOfMemory, ap, err_from_is_err_and, map, named, option_copied, pairs_in, refl, unread, variables_of, ◌∙◌, ◌≡◌}
use Rattle.envsubst.proofs.Runs.{replaces}
use Rattle.envsubst.proofs.Variables.{given-names}
use Rattle.envsubst.proofs.by_arguments.envsubst.Goals as goal

pub returns-in-Names-clause-output : goal.returns-in-Names-clause-output
returns-in-Names-clause-output g c = rw c.in-Names.is (named refl c.write_names.ensures.output)

pub returns-in_err-entries-clause-output : goal.returns-in_err-entries-clause-output
returns-in_err-entries-clause-output g c =
    let p = err_from_is_err_and c.from_residual.result c.from_residual.ensures.1 in
    rw (c.in-Replaced.is, p.1, p.2) (unread refl refl)

pub returns-in_err-variables-clause-output : goal.returns-in_err-variables-clause-output
returns-in_err-variables-clause-output g c =
    let p = err_from_is_err_and c.from_residual-in_err-variables.result c.from_residual-in_err-variables.ensures.1 in
    rw (c.in-Replaced.is, p.1, p.2) (unread refl refl)

pub returns-in_err-names-clause-output : goal.returns-in_err-names-clause-output
returns-in_err-names-clause-output g c =
    let p = err_from_is_err_and c.from_residual-in_err-names.result c.from_residual-in_err-names.ensures.1 in
    let memory : c.in_err-names.field-0.0 ≡ OutOfMemory = cc (c.in_err-names.ensures.memory, c.in_err-names.was) in
    rw (c.in-Replaced.is, p.1, p.2, memory) (unread refl refl)

pub returns-clause-output : goal.returns-clause-output
returns-clause-output g c =
    let environment = map (λ entry. entry.items) c.in_ok-entries.entries.items in
    let pairs : pairs_in c.as_slice-2.result.now ≡ variables_of environment =
    ap pairs_in c.as_slice-2.ensures.value ∙ c.in_ok-variables.ensures
    ∙ ap (λ entries. variables_of (map (λ entry. entry.items) entries)) c.as_slice.ensures.value in
    let names = given-names c.as_deref-only.result c.in_ok-names.names c.as_deref-only.ensures.value
    ∙ c.in_ok-names.ensures.names in
    rw c.in-Replaced.is
    (replaces (g.S.EntrySource.entries c.args.source.now) (g.R.ByteIn.remaining c.args.reader.now)
    (g.R.ByteIn.remaining c.run_envsubst_in_blocks.new.reader) (g.W.ByteOut.contents c.args.writer.now)
    (g.W.ByteOut.contents c.run_envsubst_in_blocks.new.writer) c.run_envsubst_in_blocks.result environment
    c.as_slice-2.result.now c.as_deref-only.result (option_copied c.in-Replaced.format) c.in_ok-entries.ensures pairs
    names c.run_envsubst_in_blocks.ensures.output)
