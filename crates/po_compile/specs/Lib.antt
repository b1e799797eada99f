-- The definitions in reading order: each module stands on those above it.
pub mod Compiling
pub mod Accepted
pub mod Headline
pub mod Laws
pub mod Collecting
pub mod Internal
pub mod Examples
pub mod Prelude
