use Rattle.msgcat.proofs.Prelude.{All, All-push, Lacks, [], ap, get_or, map-append, named_file, named_files, subst, sym, take, take_all, take_more, ◌∙◌, ◌∷◌}
use Rattle.msgcat.proofs.Runs.{first_nul, holds, lacks, no_file}
use Rattle.msgcat.proofs.plan.first_with_nul.Goals as goal

pub returns-then-is_some : goal.returns-then-is_some
returns-then-is_some c =
    first_nul c.args.files.now c.loop-place.place no_file c.loop-place-test.true c.loop-place.invariant
    (subst (λ name. Lacks 0 name → ⊥) c.as_bytes.ensures.value
    (holds _ _ c.memchr.ensures (sym c.is_some.ensures ∙ c.if-is_some.true)))

pub loop-place-preserved : goal.loop-place-preserved
loop-place-preserved c =
    let files = c.args.files.now in
    let i = c.loop-place.place in
    let file = get_or files i no_file in
    subst (All (λ file. Lacks 0 file.name))
    (sym (ap named_files (take_more files i no_file c.loop-place-test.true)
    ∙ map-append named_file (take i files) (file ∷ [])))
    (All-push (λ file. Lacks 0 file.name) (named_files (take i files)) (named_file file) c.loop-place.invariant
    (subst (Lacks 0) c.as_bytes.ensures.value
    (lacks _ _ c.memchr.ensures (sym c.is_some.ensures ∙ c.if-is_some.false))))

pub returns : goal.returns
returns c =
    let past = c.loop-place-test.false in
    rw take_all at c.loop-place.invariant
