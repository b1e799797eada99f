-- What opening leaves in the memory of the caller, and so what a C program has to keep for each
-- look-up (GNU gettext manual, "The Format of GNU MO Files" and "Plural forms").
use Rattle.std.specs.Prelude.{◌≡◌, ◌≤◌, take}
use Rattle.plural_rule.specs.Prelude.{program}
use Rattle.mo_file.specs.declared.byte_order.Order.{Order}
use Rattle.mo_file.specs.Prelude.{IsMoFile}
use Rattle.mo_lookup.specs.Prelude.{IsCatalogView, CatalogView}
use Rattle.pokit_c.specs.declared.catalog.PokitCatalog.{PokitCatalog}

-- the bytes are a valid file with these messages, and `nplurals` and the program are the rule of its
-- header entry
pub record IsOpened (catalog : PokitCatalog) (view : CatalogView) : Type 0 where
  pub file : (order : Order) × IsMoFile order catalog.bytes.now view.messages
  pub rule : IsCatalogView view.messages view.rule
  pub nplurals : catalog.nplurals ≡ view.rule.nplurals
  pub few : catalog.instruction_count ≤ 4096
  pub program_is : take catalog.instruction_count catalog.instructions ≡ program 0 view.rule.tree
