use Rattle.envsubst.proofs.Prelude.{EndsAs, answers_always, ap, err_from_is_err_and, is_lt, is_replaced, name_cmp, names_given, nat_list_cmp_total, pairs_in, ranks_by, rules, subst, value_of, ◌∙◌}
use Rattle.envsubst.proofs.Runs.{stops-unread}
use Rattle.envsubst.proofs.Variables.{given-names, same-replacements, stable-values}
use Rattle.envsubst.proofs.whole_input.run_envsubst_in_blocks.Goals as goal

pub returns-in_err-sorted-clause-output : goal.returns-in_err-sorted-clause-output
returns-in_err-sorted-clause-output g c =
    let p = err_from_is_err_and c.from_residual.result c.from_residual.ensures.1 in
    rw (p.1, p.2) (stops-unread _ _ _)

pub returns-in_err-sort_by-clause-output : goal.returns-in_err-sort_by-clause-output
returns-in_err-sort_by-clause-output g c =
    let p = err_from_is_err_and c.from_residual-in_err-sort_by.result c.from_residual-in_err-sort_by.ensures.1 in
    rw (p.1, p.2) (stops-unread _ _ _)

pub returns-in_err-names-clause-output : goal.returns-in_err-names-clause-output
returns-in_err-names-clause-output g c =
    let p = err_from_is_err_and c.from_residual-in_err-names.result c.from_residual-in_err-names.ensures.1 in
    rw (p.1, p.2) (stops-unread _ _ _)

pub returns-clause-output : goal.returns-clause-output
returns-clause-output g c =
    let stable =
    c.in_ok-sort_by.ensures.stable (λ a b. is_lt (name_cmp a.0.now b.0.now))
    (ranks_by nat_list_cmp_total (λ v. v.0.now))
    (answers_always _ _ _ (λ f a r g h. search rules)) in
    let values = stable-values c.args.vars.now _ (rw c.in_ok-sorted.ensures.items at stable) in
    let only = given-names c.as_deref-only.result c.in_ok-names.names c.as_deref-only.ensures.value in
    let same =
    same-replacements (pairs_in c.args.vars.now) (pairs_in c.as_slice.result.now) (names_given c.args.only)
    (names_given c.as_deref-only.result)
    (λ name. ap (λ vars. value_of (pairs_in vars) name) c.as_slice.ensures.value ∙ values name)
    (λ name. ap (λ names. is_replaced names name) only ∙ c.in_ok-names.ensures name) in
    subst
    (λ values. EndsAs values (g.R.ByteIn.remaining c.args.reader.now)
    (g.R.ByteIn.remaining c.substitute_all.new.reader)
    (g.W.ByteOut.contents c.args.writer.now)
    (g.W.ByteOut.contents c.substitute_all.new.writer) c.substitute_all.result)
    same c.substitute_all.ensures.output
