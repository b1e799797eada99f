-- The definitions in reading order: each module stands on those above it.
pub mod Answers
pub mod SystemCalls
pub mod Reading
pub mod OutputCalls
pub mod Value
pub mod Options
pub mod Endings
pub mod Program
pub mod Starting
pub mod Internal
pub mod Prelude
