-- The definitions in reading order: each module stands on those above it.
pub mod Options
pub mod Selected
pub mod Msgattrib
pub mod Internal
pub mod Laws
pub mod Examples
pub mod Prelude
