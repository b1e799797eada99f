-- The lemmas in reading order: each module stands on those above it.
mod Prelude
pub mod Messages
pub mod RoundTrip
pub mod OneOutcome
pub mod MessageParts
