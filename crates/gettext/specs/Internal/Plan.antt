-- Internal: a file is opened after others.
use Rattle.std.specs.Prelude.{◌≡◌, ◌++◌, ◌∷◌, [], ℕ, List}
use Rattle.mo_file.specs.declared.byte_order.Order.{Order}
use Rattle.mo_file.specs.Prelude.{IsMoFile}
use Rattle.mo_lookup.specs.Prelude.{CatalogView, IsCatalogView}

-- the catalogue of these bytes joins others
pub record Joins (bytes : List ℕ) (old new : List CatalogView) : Type 0 where
  pub catalog : CatalogView
  pub order : Order
  pub is_file : IsMoFile order bytes catalog.messages
  pub is_catalog : IsCatalogView catalog.messages catalog.rule
  pub joined : new ≡ old ++ catalog ∷ []
