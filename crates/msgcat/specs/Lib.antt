-- The definitions in reading order: each module stands on those above it.
pub mod Options
pub mod Inputs
pub mod Groups
pub mod Merged
pub mod Msgcat
pub mod WholeRun
pub mod MergeInputs
pub mod Internal
pub mod Laws
pub mod Examples
pub mod Prelude
