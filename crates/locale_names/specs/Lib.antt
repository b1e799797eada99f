-- The definitions in reading order: each module stands on those above it.
pub mod Names
pub mod Candidate
pub mod Prelude
