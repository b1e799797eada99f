-- The definitions in reading order: each module stands on those above it.
pub mod Unformatted
pub mod Msgunfmt
pub mod Laws
pub mod Internal
pub mod Prelude
