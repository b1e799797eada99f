-- The definitions in reading order: each module stands on those above it.
pub mod Commands
pub mod Tips
pub mod Usage
pub mod Internal
pub mod Prelude
