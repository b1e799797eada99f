use Rattle.gettext.proofs.Prelude.{ap, catalogue_files, named_file, named_files, sym, take, take-map, take_all, ◌∙◌}
use Rattle.gettext.proofs.catalogues.borrowed_catalogues.Goals as goal

pub returns-clause-borrowed : goal.returns-clause-borrowed
returns-clause-borrowed c =
    ap named_files c.truncate.ensures.items ∙ sym (take-map named_file 4294967295 c.loop-catalogue.borrowed.items)
    ∙ ap (take 4294967295) (c.loop-catalogue.invariant
    ∙ ap catalogue_files (take_all c.loop-catalogue.catalogue-index c.args.catalogues.now
    c.loop-catalogue-test.false))
