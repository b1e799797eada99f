-- The definitions in reading order: each module stands on those above it.
pub mod WrittenText
pub mod Parts
pub mod Laws
pub mod Examples
pub mod Prelude
