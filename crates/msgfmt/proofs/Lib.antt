-- The lemmas in reading order: each module stands on those above it.
mod Prelude
pub mod ProfileFaults
pub mod CheckedMessages
pub mod Runs
