use Rattle.gettext.proofs.Prelude.{drop, map, path_of, ◌++◌, ◌≡◌}
use Rattle.gettext.proofs.paths.catalogue_paths.Given as goal

abbrev pub invariant-loop-locale : goal.invariant-loop-locale
invariant-loop-locale l =
    map (λ path. path.items) l.paths.items ++ map (λ locale. path_of l.folder locale l.domain)
    (map (λ name. name.items) (drop l.locale-index l.locale-items))
    ≡ map (λ locale. path_of l.folder locale l.domain) (map (λ name. name.items) l.locale-items)
