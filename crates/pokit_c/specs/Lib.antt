-- The definitions in reading order: each module stands on those above it.
pub mod Sorted
pub mod Opened
pub mod QueryView
pub mod Prelude
