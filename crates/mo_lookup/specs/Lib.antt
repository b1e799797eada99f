-- The definitions in reading order: each module stands on those above it.
pub mod Query
pub mod Search
pub mod Answer
pub mod Place
pub mod CatalogView
pub mod Chain
pub mod Laws
pub mod Examples
pub mod Prelude
