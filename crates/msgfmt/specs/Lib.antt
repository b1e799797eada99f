-- The definitions in reading order: each module stands on those above it.
pub mod Profile
pub mod Msgfmt
pub mod Laws
pub mod Options
pub mod WholeRun
pub mod Internal
pub mod Prelude
