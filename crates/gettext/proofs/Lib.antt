-- The lemmas in reading order: each module stands on those above it.
mod Prelude
pub mod Escapes
pub mod Counts
pub mod LocaleChoice
pub mod LocaleNames
pub mod Languages
pub mod FoundCatalogues
