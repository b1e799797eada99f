-- The lemmas in reading order: each module stands on those above it.
mod Prelude
pub mod References
pub mod Variables
pub mod Substitution
pub mod Pieces
pub mod Runs
