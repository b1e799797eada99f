-- The lemmas in reading order: each module stands on those above it.
mod Prelude
pub mod Envsubst
pub mod Msgfmt
pub mod CommandRuns
pub mod Msgcat
pub mod LookUps
