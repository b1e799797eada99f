use Rattle.gettext.proofs.FoundCatalogues.{Completes}
use Rattle.gettext.proofs.plan.open_all.Given as goal

abbrev pub invariant-loop-name : goal.invariant-loop-name
invariant-loop-name l = Completes l.tool l.files l.name-index l.catalogs.items l.messages.items
