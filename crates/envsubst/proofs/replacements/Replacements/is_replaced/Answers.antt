use Rattle.envsubst.proofs.Prelude.{AreNamesSorted, IfSome, ap, bytes_eq, is_replaced, names_given, subst, sym, ◌∙◌}
use Rattle.envsubst.proofs.Variables.{list_any-map, searched-name}
use Rattle.envsubst.proofs.replacements.Replacements.is_replaced.Goals as goal

pub returns-in-Some : goal.returns-in-Some
unfolding is_replaced
returns-in-Some c =
    let name = c.args.name.now in
    rw (← c.self.view_is)
    (
    c.is_ok.ensures.value
    ∙ searched-name c.in-Some.names.now name _
    (subst (λ only. IfSome only (λ names. AreNamesSorted names.now)) c.in-Some.is (c.self.invariant.1 c.if-self.true))
    c.binary_search.ensures.bound c.binary_search.ensures.position
    ∙ sym (list_any-map (λ n. n.now) (λ n. bytes_eq n name) c.in-Some.names.now)
    ∙ sym (ap (λ only. is_replaced (names_given only) name) c.in-Some.is)
    )

pub returns-in-Some-2 : goal.returns-in-Some-2
unfolding is_replaced
returns-in-Some-2 c =
    let name = c.args.name.now in
    rw (← c.self.view_is)
    (
    c.contains.ensures.value
    ∙ sym (list_any-map (λ n. n.now) (λ n. bytes_eq n name) c.in-Some-2.names.now)
    ∙ sym (ap (λ only. is_replaced (names_given only) name) c.in-Some-2.is)
    )
