use Rattle.po_entry.proofs.Prelude.{IsCatalogueEntry, ap, arith, common_steps, entry_at, length, map, subst, ◌<◌, ◌≡◌}
use Rattle.std.specs.Prelude.{get_or}
use Rattle.po_entry.proofs.store.Store.get.Goals as goal

pub returns-clause-valid : goal.returns-clause-valid
returns-clause-valid c =
    let entries = map (entry_at c.self.inside.bytes.items) c.self.inside.rows.items in
    let inside : c.args.index < length entries = omega (arith, c.requires, ap length c.self.view_is) in
    let is : get_or entries c.args.index c.of.result ≡ c.of.result = grind (arith, common_steps) in
    subst IsCatalogueEntry is (c.self.invariant.valid c.args.index c.of.result inside)
