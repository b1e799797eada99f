-- The definitions in reading order: each module stands on those above it.
pub mod Words
pub mod Ends
pub mod Msgfmt
pub mod Plain
pub mod LookUps
pub mod Substitutions
pub mod Internal
pub mod Prelude
