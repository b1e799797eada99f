use Rattle.gettext.proofs.Prelude.{catalogue_files, named_files, take, ◌≡◌}
use Rattle.gettext.proofs.catalogues.borrowed_catalogues.Given as goal

abbrev pub invariant-loop-catalogue : goal.invariant-loop-catalogue
invariant-loop-catalogue l = named_files l.borrowed.items ≡ catalogue_files (take l.catalogue-index l.catalogues)
