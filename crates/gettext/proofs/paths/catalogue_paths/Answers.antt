use Rattle.gettext.proofs.Prelude.{Some, append-nil, domain_of, drop_of_length-le, folder_of, map, option_copied, path_of, rules, sym, ◌≡◌}
use Rattle.gettext.proofs.paths.catalogue_paths.Goals as goal

pub returns-clause-paths : goal.returns-clause-paths
returns-clause-paths c =
    let domain : domain_of (option_copied c.args.argument) (option_copied c.args.option) c.args.environment.now
    ≡ Some c.in-Some.domain.now = search rules in
    let done : map (λ path. path.items) c.loop-locale.paths.items
    ≡ map (λ locale. path_of c.unwrap_or-folder.result.now locale c.in-Some.domain.now)
    (map (λ name. name.items) c.deref-locale-items.result.now) =
    simp append-nil at
    (rw (drop_of_length-le c.deref-locale-items.result.now c.loop-locale-test.false) at c.loop-locale.invariant) in
    let folder : c.unwrap_or-folder.result.now ≡ folder_of c.args.environment.now = search rules in
    rw (domain, sym c.if-is_path_part.ensures)
    (rw (folder, c.deref-locale-items.ensures.value, c.in_ok-locales.ensures.candidates) at done)
