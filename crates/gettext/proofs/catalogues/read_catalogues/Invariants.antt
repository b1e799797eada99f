use Rattle.gettext.proofs.Prelude.{Stays, catalogue_files}
use Rattle.gettext.proofs.FoundCatalogues.{AskedPaths, CompletesPaths}
use Rattle.gettext.proofs.catalogues.read_catalogues.Given as goal

abbrev pub invariant-loop-path : goal.invariant-loop-path
invariant-loop-path g l = record {
  catalogues : CompletesPaths (g.S.InputSource.file l.fn.source) l.paths l.path-index (catalogue_files l.found.items);
  stays : Stays (g.S.InputSource.file l.fn.source) (g.S.InputSource.file l.source)
      (g.S.InputSource.standard l.fn.source) (g.S.InputSource.standard l.source);
  asked : AskedPaths l.paths l.path-index (g.S.InputSource.asked l.fn.source) (g.S.InputSource.asked l.source);
}
