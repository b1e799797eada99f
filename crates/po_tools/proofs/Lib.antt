-- The lemmas in reading order: each module stands on those above it.
mod Prelude
pub mod OneRun
pub mod Pipelines
pub mod RoundTrip
