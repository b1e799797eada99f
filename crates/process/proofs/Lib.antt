-- The lemmas in reading order: each module stands on those above it.
mod Prelude
pub mod CallOutcomes
