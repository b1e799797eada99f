-- The lemmas in reading order: each module stands on those above it.
mod Prelude
pub mod Cuts
pub mod KeyComparison
pub mod Faults
pub mod RisingKeys
pub mod FileLayout
pub mod RoundTrip
